-- Two tables that look each other up, and what a trade of two wires leaves of them.
use Rattle.std.proofs.Common.{◌≡◌, ℕ, ◌<◌, ◌≤◌, ◌≢◌, List, map, length, get_or, take, sym, refl, ap, ◌∙◌, ⊎_elim, arith}
use lib.ListN.{length-map}
use Rattle.std.specs.List.{swap}
use Rattle.std.proofs.lemmas.List.Edits.{length-swap}
use Rattle.std.proofs.lemmas.List.{get_or-take, get_or-map, length-take-le, ext_get_or}
use Rattle.std.proofs.lemmas.Bool.{cases_eq}
use Rattle.std.proofs.lemmas.Bool.Decides.{nat_tests}
use Rattle.rows.specs.Steps.{trade}
use Rattle.machine.proofs.Trading.{trade_trade}
use Rattle.cells.proofs.Entries.{traded_at}
use Rattle.sheet.specs.Sheets.{places_traded}

-- n entries at n wires: the wire of each entry, and the entry on each wire
pub record Both (n : ℕ) (at on : List ℕ) : Type 0 where
  pub inside : (e : ℕ) → e < n → get_or at e 0 < n
  pub back : (e : ℕ) → e < n → get_or on (get_or at e 0) 0 ≡ e
  pub held : (w : ℕ) → w < n → get_or on w 0 < n
  pub there : (w : ℕ) → w < n → get_or at (get_or on w 0) 0 ≡ w

trade_below : (a b i n : ℕ) → a < n → b < n → i < n → trade a b i < n
trade_below a b i n f g h = grind (arith, nat_tests)

-- what stands at two traded entries is what stands at them, traded
crossing : (n : ℕ) (f g : List ℕ) → ((e : ℕ) → e < n → get_or g (get_or f e 0) 0 ≡ e) → (a b x y : ℕ) → get_or f x 0 ≡ a → get_or f y 0 ≡ b → x < n → y < n →
    (e : ℕ) → e < n → get_or f (trade x y e) 0 ≡ trade a b (get_or f e 0)
crossing n f g back a b x y fx fy hx hy e he = ⊎_elim
    (λ (p : e ≡ x). let q : trade x y e ≡ y = grind (arith, nat_tests) in let r : get_or f e 0 ≡ a = ap (λ i. get_or f i 0) p ∙ fx in
    ap (λ i. get_or f i 0) q ∙ fy ∙ to_second (get_or f e 0) r)
    (λ (n : e ≢ x). ⊎_elim
    (λ (p : e ≡ y). let q : trade x y e ≡ x = grind (arith, nat_tests) in let r : get_or f e 0 ≡ b = ap (λ i. get_or f i 0) p ∙ fy in
    ap (λ i. get_or f i 0) q ∙ fx ∙ to_first (get_or f e 0) r)
    (λ (m : e ≢ y). let q : trade x y e ≡ e = grind (arith, nat_tests) in
    ap (λ i. get_or f i 0) q ∙ stays (get_or f e 0) (other x a fx hx n) (other y b fy hy m))
    (cases_eq e y))
    (cases_eq e x)
  where
    other : (z c : ℕ) → get_or f z 0 ≡ c → z < n → e ≢ z → get_or f e 0 ≢ c
    other z c fz hz ne same = ne (sym (back e he) ∙ ap (λ i. get_or g i 0) (same ∙ sym fz) ∙ back z hz)

    to_second : (w : ℕ) → w ≡ a → b ≡ trade a b w
    to_second w h = grind (arith, nat_tests)

    to_first : (w : ℕ) → w ≡ b → a ≡ trade a b w
    to_first w h = grind (arith, nat_tests)

    stays : (w : ℕ) → w ≢ a → w ≢ b → w ≡ trade a b w
    stays w h k = grind (arith, nat_tests)

module _ (n : ℕ) (at on at' on' : List ℕ) (a b : ℕ) (both : Both n at on) (la : n ≤ length at) (lo : n ≤ length on) (ha : a < n) (hb : b < n)
    (ea : at' ≡ swap at (get_or on a 0) (get_or on b 0)) (eo : on' ≡ swap on a b) where
  abbrev x : ℕ
  x = get_or on a 0

  abbrev y : ℕ
  y = get_or on b 0

  hx : x < n
  hx = both.held a ha

  hy : y < n
  hy = both.held b hb

  -- each entry's wire is traded
  pub wire_after : (e : ℕ) → e < n → get_or at' e 0 ≡ trade a b (get_or at e 0)
  wire_after e he =
      traded_at 0 at at' x y e (omega (arith, hx)) (omega (arith, hy)) ea
      ∙ crossing n at on both.back a b x y (both.there a ha) (both.there b hb) hx hy e he

  -- each wire's entry is traded
  pub entry_after : (w : ℕ) → w < n → get_or on' w 0 ≡ trade x y (get_or on w 0)
  entry_after w hw =
      traded_at 0 on on' a b w (omega arith) (omega arith) eo
      ∙ crossing n on at both.there x y a b refl refl ha hb w hw

  on_traded : (w : ℕ) → get_or on' w 0 ≡ get_or on (trade a b w) 0
  on_traded w = traded_at 0 on on' a b w (omega arith) (omega arith) eo

  at_traded : (e : ℕ) → get_or at' e 0 ≡ get_or at (trade x y e) 0
  at_traded e = traded_at 0 at at' x y e (omega (arith, hx)) (omega (arith, hy)) ea

  pub both_after : Both n at' on'
  both_after = record {
    inside = λ e he. rw (wire_after e he) (trade_below a b (get_or at e 0) n ha hb (both.inside e he));
    back = λ e he. ap (λ w. get_or on' w 0) (wire_after e he) ∙ on_traded (trade a b (get_or at e 0)) ∙ ap (λ w. get_or on w 0) (trade_trade a b (get_or at e 0)) ∙ both.back e he;
    held = λ w hw. rw (entry_after w hw) (trade_below x y (get_or on w 0) n hx hy (both.held w hw));
    there = λ w hw. ap (λ e. get_or at' e 0) (entry_after w hw) ∙ at_traded (trade x y (get_or on w 0)) ∙ ap (λ e. get_or at e 0) (trade_trade x y (get_or on w 0)) ∙ both.there w hw;
  }

  -- the qubits' wires are traded
  pub places_after : (m : ℕ) → m ≤ n → take m at' ≡ places_traded a b (take m at)
  places_after m le =
      let long : length at' ≡ length at = ap length ea ∙ length-swap at (get_or on a 0) (get_or on b 0) in
      let l : length (take m at) ≡ m = length-take-le m at (omega arith) in
      let k : length (take m at') ≡ m = length-take-le m at' (omega arith) in
      ext_get_or 0 (take m at') (map (trade a b) (take m at)) (k ∙ sym l ∙ sym (length-map (take m at) (trade a b)))
      (λ i h. let j : i < m = omega arith in
      get_or-take m at' i 0 j ∙ wire_after i (omega arith) ∙ ap (trade a b) (sym (get_or-take m at i 0 j)) ∙ sym (get_or-map (trade a b) (take m at) i 0 0 (omega arith)))
