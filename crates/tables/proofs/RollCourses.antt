-- One course more between two rows, by the recurrence of the table.
use Rattle.std.proofs.Common.{◌≡◌, ℕ, ◌+◌, ◌%◌, ◌<◌, ◌≤◌, eqb, List, length, get_or, drop, sym, refl, ap, ◌∙◌, subst, arith}
use Rattle.std.proofs.lemmas.Bool.{eq-eqb, ne_eqb, cond-true, cond-false}
use Rattle.charts.specs.Meaning.{Moves, Meaning, Sound}
use Rattle.weights.specs.Laws.{Algebra, Laws}
use Rattle.tables.specs.Fill.{join_below, guarded, into, alarming, passed_on}
use Rattle.tables.specs.Table.{table_at, caught_from}
use Rattle.tables.specs.Roll.{Rolled}
use Rattle.tables.specs.Row.{sided}
use Rattle.tables.proofs.Joins.{join_below_same}
use Rattle.tables.proofs.TableRecurrence.{table_none, caught_none, table_more, caught_more}

pub sided_even : {X : Type 0} (n : ℕ) (x y : X) → n % 2 ≡ 0 → sided n x y ≡ x
sided_even n x y e = cond-true (eqb (n % 2) 0) x y (eq-eqb (n % 2) 0 e)

pub sided_odd : {X : Type 0} (n : ℕ) (x y : X) → (n % 2 ≡ 0 → ⊥) → sided n x y ≡ y
sided_odd n x y ne = cond-false (eqb (n % 2) 0) x y (ne_eqb (n % 2) 0 ne)

-- A chart v at a limit where it has n states, with the weights of at most 16 symbols.
module _ {S : Type 0} (k : Algebra S) (l : Laws k) (v : Meaning) (o : Sound v) (h : ℕ) (w : List S) (n : ℕ) (is : n ≡ v.count h) (some : 0 < n) (few : length w ≤ 16) where
  abbrev m : Moves
  m = v.moves

  abbrev start : ℕ
  start = v.moves.start h

  below : start < n
  below = omega (arith, is, o.start_below h (omega (arith, is)))

  stays : (s a : ℕ) → s < n → a < length w → m.step h s a < n
  stays s a b e = subst (λ z. m.step h s a < z) (sym is) (o.step_below h s a (subst (λ z. s < z) is b) (omega arith))

  -- What `from` holds after i courses makes the table and the caught value of one more.
  module _ (i : ℕ) (from : List S) (filled : (s : ℕ) → s < n → get_or from s k.zero ≡ table_at k m h start w i s) where
    next_table : (t : ℕ) → join_below k (λ s. into k m h w t s (get_or from s k.zero)) n ≡ table_at k m h start w (i + 1) t
    next_table t =
        join_below_same k l _ _ n (λ s b. ap (into k m h w t s) (filled s b))
        ∙ sym (table_more k l m h start w n below stays i t)

    next_caught : (c : S) → c ≡ caught_from k m h start w i → k.join (passed_on k w c) (join_below k (λ s. alarming k m h w s (get_or from s k.zero)) n) ≡ caught_from k m h start w (i + 1)
    next_caught c e =
        ap (k.join (passed_on k w c)) (join_below_same k l _ _ n (λ s b. ap (alarming k m h w s) (filled s b)))
        ∙ ap (λ y. k.join (passed_on k w y) (join_below k (λ s. alarming k m h w s (table_at k m h start w i s)) n)) e
        ∙ sym (caught_more k l m h start w n below stays i)

  -- From the row of one side, `from`, into that of the other, which `row` then is.
  pub roll_more : (i : ℕ) (first second first' second' from row : List S) (c c' : S) → Rolled k m h start n w i first second first second c → sided i first second ≡ from → sided (i + 1) first' second' ≡ row → drop n first' ≡ drop n first → drop n second' ≡ drop n second → ((t : ℕ) → t < n → get_or row t k.zero ≡ join_below k (λ s. into k m h w t s (get_or from s k.zero)) n) → c' ≡ k.join (passed_on k w c) (join_below k (λ s. alarming k m h w s (get_or from s k.zero)) n) → Rolled k m h start n w (i + 1) first second first' second' c'
  roll_more i first second first' second' from row c c' was held filled first_past second_past cells alarm =
      let table : (s : ℕ) → s < n → get_or from s k.zero ≡ table_at k m h start w i s = λ s b. ap (λ r. get_or r s k.zero) (sym held) ∙ was.filled s b in
      record {
        filled = λ s b. ap (λ r. get_or r s k.zero) filled ∙ cells s b ∙ next_table i from table s;
        first_past = first_past;
        second_past = second_past;
        caught_is = alarm ∙ next_caught i from table c was.caught_is;
      }

module _ {S : Type 0} (k : Algebra S) (l : Laws k) (m : Moves) (h start n : ℕ) (w : List S) where
  -- No course.
  pub roll_none : (first second : List S) (c : S) → ((t : ℕ) → t < n → get_or first t k.zero ≡ guarded k (eqb start t) k.one) → c ≡ k.zero → Rolled k m h start n w 0 first second first second c
  roll_none first second c cells none = record {
    filled = λ s b. cells s b ∙ sym (table_none k l m h start w s);
    first_past = refl;
    second_past = refl;
    caught_is = none ∙ sym (caught_none k l m h start w);
  }

  -- After all courses, from the first row as it was before its first cells were cleared.
  pub roll_all : (i j : ℕ) (old first second first' second' : List S) (c : S) → i ≡ j → drop n first ≡ drop n old → Rolled k m h start n w i first second first' second' c → Rolled k m h start n w j old second first' second' c
  roll_all i j old first second first' second' c last same r = record {
    filled = λ s b. ap (λ e. get_or (sided e first' second') s k.zero) (sym last) ∙ r.filled s b ∙ ap (λ e. table_at k m h start w e s) last;
    first_past = r.first_past ∙ same;
    second_past = r.second_past;
    caught_is = r.caught_is ∙ ap (caught_from k m h start w) last;
  }
