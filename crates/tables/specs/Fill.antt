-- What one course adds to a row: the words of the row filler's contracts.
use Rattle.std.specs.Prelude.{ℕ, zero, suc, Bool, if◌then◌else◌, not, ◌&&◌, List, length, ◌==◌, slice_index_or}
use Rattle.charts.specs.Meaning.{Moves}
use Rattle.weights.specs.Laws.{Algebra}

-- The join of f over the numbers below n, from the left.
abbrev pub join_below : {S : Type 0} → Algebra S → (ℕ → S) → ℕ → S
join_below k f zero = k.zero
join_below k f (suc n) = k.join (join_below k f n) (f n)

-- x where the test passes, else zero.
abbrev pub guarded : {S : Type 0} → Algebra S → Bool → S → S
guarded k b x = if b then x else k.zero

-- What y, the weight of a sequence with one symbol a more after the state s, gives to the state t
-- unstopped, and what it gives to the caught value.
abbrev pub freed : {S : Type 0} → Algebra S → Moves → ℕ → ℕ → ℕ → ℕ → S → S
freed k m h t s a y = guarded k (not (m.alarm h (m.step h s a)) && m.step h s a == t) y

abbrev pub alarmed : {S : Type 0} → Algebra S → Moves → ℕ → ℕ → ℕ → S → S
alarmed k m h s a y = guarded k (m.alarm h (m.step h s a)) y

-- The share of the symbol a in what a weight x in the state s gives.
abbrev pub free_share : {S : Type 0} → Algebra S → Moves → ℕ → List S → ℕ → ℕ → S → ℕ → S
free_share k m h w t s x a = freed k m h t s a (k.product x (slice_index_or w a k.zero))

abbrev pub alarm_share : {S : Type 0} → Algebra S → Moves → ℕ → List S → ℕ → S → ℕ → S
alarm_share k m h w s x a = alarmed k m h s a (k.product x (slice_index_or w a k.zero))

-- The same over all symbols, and what a weight x comes to with one symbol more.
abbrev pub into : {S : Type 0} → Algebra S → Moves → ℕ → List S → ℕ → ℕ → S → S
into k m h w t s x = join_below k (free_share k m h w t s x) (length w)

abbrev pub alarming : {S : Type 0} → Algebra S → Moves → ℕ → List S → ℕ → S → S
alarming k m h w s x = join_below k (alarm_share k m h w s x) (length w)

abbrev pub passed_on : {S : Type 0} → Algebra S → List S → S → S
passed_on k w x = join_below k (λ a. k.product x (slice_index_or w a k.zero)) (length w)
