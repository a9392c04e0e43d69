-- The part of a row that is handed out.
use Rattle.std.specs.Prelude.{ℕ, if◌then◌else◌, List, [], length, take, ◌==◌, nat_le}

-- The first n cells, or none where there are fewer.
abbrev pub front : {X : Type 0} → ℕ → List X → List X
front n row = if nat_le n (length row) then take n row else []

-- That of the row of a side, 0 or 1; none for another side.
abbrev pub part_of : {X : Type 0} → ℕ → ℕ → List X → List X → List X
part_of side n first second = if side == 0 then front n first else (if side == 1 then front n second else [])
