-- What a chart means, and what every chart owes.
use Rattle.std.specs.Prelude.{◌≡◌, ℕ, ◌<◌, ◌≤◌, Bool, false}

-- How a chart is played: the start state at a limit, the state after a state and a symbol at a
-- limit, and whether a state alarms at a limit.
pub record Moves : Type 0 where
  pub start : ℕ → ℕ
  pub step : ℕ → ℕ → ℕ → ℕ
  pub alarm : ℕ → ℕ → Bool

-- A chart: its state count at a limit, and its moves. A count of 0 stands for "more than 1,024
-- states, or a limit outside 1 to 1,023".
pub record Meaning : Type 0 where
  pub count : ℕ → ℕ
  pub moves : Moves

-- What every chart owes.
pub record Sound (m : Meaning) : Type 0 where
  pub count_most : (h : ℕ) → m.count h ≤ 1024
  pub count_range : (h : ℕ) → 0 < m.count h → (1 ≤ h) × (h ≤ 1023)
  pub start_below : (h : ℕ) → 0 < m.count h → m.moves.start h < m.count h
  pub start_none : (h : ℕ) → m.count h ≡ 0 → m.moves.start h ≡ 0
  pub step_below : (h s a : ℕ) → s < m.count h → a < 16 → m.moves.step h s a < m.count h
  pub step_past : (h s a : ℕ) → m.count h ≤ s → m.moves.step h s a ≡ 0
  pub step_symbol : (h s a : ℕ) → 16 ≤ a → m.moves.step h s a ≡ 0
  pub alarm_past : (h s : ℕ) → m.count h ≤ s → m.moves.alarm h s ≡ false
