-- Sequences by their last symbol: induction, and what it adds to a run.
use Rattle.std.proofs.Common.{◌≡◌, ℕ, ◌<◌, ◌||◌, List, [], ◌∷◌, ◌++◌, sym, refl, subst, append_assoc, append-nil, arith}
use Rattle.std.proofs.lemmas.Bool.Decides.{nat_tests}
use Rattle.charts.specs.Meaning.{Moves}
use Rattle.charts.specs.Runs.{Symbols, run_from, end_state, stops_from}

-- What holds of some courses, and of one course more each time, holds with a whole sequence more.
lengthened : (P : List ℕ → Type 0) → ((q : List ℕ) (a : ℕ) → P q → P (q ++ a ∷ [])) → (done q : List ℕ) → P done → P (done ++ q)
lengthened P more done [] h = subst P (sym (append-nil done)) h
lengthened P more done (a ∷ q) h = subst P (append_assoc done (a ∷ []) q) (lengthened P more (done ++ a ∷ []) q (more done a h))

pub by_last : (P : List ℕ → Type 0) → P [] → ((q : List ℕ) (a : ℕ) → P q → P (q ++ a ∷ [])) → (q : List ℕ) → P q
by_last P none more q = lengthened P more [] q none

pub symbols_last : (k : ℕ) (q : List ℕ) (a : ℕ) → Symbols k (q ++ a ∷ []) → Symbols k q × (a < k)
symbols_last k [] a (l, y) = (tt, l)
symbols_last k (b ∷ q) a (l, y) = let r = symbols_last k q a y in ((l, r.0), r.1)

pub run_push : (m : Moves) (h s : ℕ) (q : List ℕ) (a : ℕ) → run_from m h s (q ++ a ∷ []) ≡ m.step h (run_from m h s q) a
run_push m h s [] a = refl
run_push m h s (b ∷ q) a = run_push m h _ q a

-- After a sequence and one symbol more, the state is a step on.
pub end_push : (m : Moves) (h : ℕ) (q : List ℕ) (a : ℕ) → end_state m h (q ++ a ∷ []) ≡ m.step h (end_state m h q) a
end_push m h q a = run_push m h (m.start h) q a

pub stops_push : (m : Moves) (h s : ℕ) (q : List ℕ) (a : ℕ) → stops_from m h s (q ++ a ∷ []) ≡ (stops_from m h s q || m.alarm h (m.step h (run_from m h s q) a))
stops_push m h s [] a = grind (arith, nat_tests)
stops_push m h s (b ∷ q) a = grind (arith, nat_tests, stops_push m h (m.step h s b) q a)
