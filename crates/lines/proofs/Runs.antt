-- Runs of one class of bytes at the front of a line.
use Rattle.std.proofs.Common.{◌≡◌, ℕ, ◌<◌, ◌≤◌, List, [], ◌∷◌, ◌++◌, length, get_or, take, drop, sym, refl, ap, ◌∙◌, subst, add-zero, arith, length-append, length-drop, take-append-drop, length-take-le, get_or-drop, get_or-take}
use Rattle.std.specs.List.{AllByRecursion}
use Rattle.std.proofs.ByRecursion.{All-from_get_or}
use Rattle.lines.specs.Number.{Unlike}
use Rattle.lines.specs.Tokens.{Longest}

module _ (C : ℕ → Type 0) where
  unlike_from : (s : List ℕ) → (0 < length s → ¬ C (get_or s 0 0)) → Unlike C s
  unlike_from [] h = tt
  unlike_from (b ∷ s) h = h (omega arith)

  -- what a loop that counts the run has found, cut off
  pub longest : (s w rest : List ℕ) (n : ℕ) → n ≤ length s → 0 < n → ((i : ℕ) → i < n → C (get_or s i 0)) → (n < length s → ¬ C (get_or s n 0)) → w ≡ take n s → rest ≡ drop n s → Longest C s w rest
  longest s w rest n within some all stops front back =
      let long : length w ≡ n = ap length front ∙ length-take-le n s within in
      record {
        some = omega arith;
        all = All-from_get_or C w 0 (λ i lt. let k : i < n = omega arith in subst C (sym (ap (λ l. get_or l i 0) front ∙ get_or-take n s i 0 k)) (all i k));
        ends = unlike_from rest (λ h d. stops (omega (arith, ap length back, length-drop n s)) (subst C (ap (λ l. get_or l 0 0) back ∙ get_or-drop n s 0 0 ∙ ap (λ i. get_or s i 0) (add-zero n)) d));
        split = sym (take-append-drop n s) ∙ (λ t. sym front t ++ sym back t);
      }

  run_same : (w v r t : List ℕ) → AllByRecursion C w → AllByRecursion C v → Unlike C r → Unlike C t → w ++ r ≡ v ++ t → (w ≡ v) × (r ≡ t)
  run_same [] [] r t p q u d e = (refl, e)
  run_same [] (b ∷ v) r t p q u d e = absurd (subst (Unlike C) e u q.0)
  run_same (a ∷ w) [] r t p q u d e = absurd (subst (Unlike C) (sym e) d p.0)
  run_same (a ∷ w) (b ∷ v) r t p q u d e =
      let rest = run_same w v r t p.1 q.1 u d (ap (drop 1) e) in
      ((λ i. ap (λ l. get_or l 0 0) e i ∷ rest.0 i), rest.1)

  -- a text has one longest front of a kind
  pub longest_same : (s w v r t : List ℕ) → Longest C s w r → Longest C s v t → (w ≡ v) × (r ≡ t)
  longest_same s w v r t p q = run_same w v r t p.all q.all p.ends q.ends (sym p.split ∙ q.split)

  pub longest_first : (s w rest : List ℕ) → Longest C s w rest → C (get_or s 0 0)
  longest_first s [] rest l = absurd (omega (arith, l.some))
  longest_first s (b ∷ w) rest l = subst C (sym (ap (λ l. get_or l 0 0) l.split)) l.all.0

  pub longest_some : (s w rest : List ℕ) → Longest C s w rest → 0 < length s
  longest_some s w rest l = omega (arith, l.some, ap length l.split, length-append w rest)
