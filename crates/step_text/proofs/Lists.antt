-- The wires and k of a line, one after the other.
use Rattle.std.proofs.Common.{◌≡◌, ℕ, Bool, true, false, List, [], ◌++◌, codes, decimal, sym, refl, ◌∙◌, subst, arith}
use Rattle.std.proofs.lemmas.List.{append-nil, append_cancel_left}
use Rattle.lines.specs.Number.{Digit, Unlike}
use Rattle.rows.specs.StepKinds.{on_two, has_k}
use Rattle.step_text.specs.StepLines.{part}
use Rattle.lines.specs.Number.{Begins}
use Rattle.step_text.specs.Parts.{Follows, Operands}
use Rattle.lines.proofs.Decimal.{begins_same}

-- no digit follows a number
part_ends : (w : Bool) (v : ℕ) (rest : List ℕ) → Unlike Digit rest → Unlike Digit (part w v ++ rest)
part_ends true v rest u = λ d. omega (arith, d.0)
part_ends false v rest u = u

last_ends : (w : Bool) (v : ℕ) → Unlike Digit (part w v)
last_ends true v = λ d. omega (arith, d.0)
last_ends false v = tt

pub to_comma : (s after : List ℕ) (v : ℕ) (rest : List ℕ) → s ≡ codes "," ++ after → Follows true s v rest → Begins 255 after v rest
to_comma s after v rest cut f = record {
  small = f.small;
  ended = f.ended refl;
  split = append_cancel_left (codes ",") after (decimal v ++ rest) (sym cut ∙ f.split);
}

pub nothing : (s : List ℕ) → Follows false s 0 s
nothing s = record { small = omega arith; unwritten = λ e. refl; ended = λ e. absurd (false_not_true e); split = refl }
  where
    false_not_true : ¬ (false ≡ true)
    false_not_true e = let z : ◌≡◌ {A = ℕ} 0 1 = cc in omega arith

pub follows_same : (w : Bool) (s : List ℕ) (v u : ℕ) (r t : List ℕ) → Follows w s v r → Follows w s u t → (v ≡ u) × (r ≡ t)
follows_same true s v u r t f g =
    begins_same 255 (decimal v ++ r) v u r t (omega arith) (to_comma s (decimal v ++ r) v r f.split f) (to_comma s (decimal v ++ r) u t f.split g)
follows_same false s v u r t f g = (f.unwritten refl ∙ sym (g.unwritten refl), sym f.split ∙ g.split)

-- operands, cut into their parts; w and u say whether a second wire and k are written
module _ (c : ℕ) (w u : Bool) (p : w ≡ on_two c) (q : u ≡ has_k c) where
  second_is : (a b k : ℕ) (s : List ℕ) → Operands c s a b k → s ≡ decimal a ++ (part w b ++ part u k)
  second_is a b k s o = o.is ∙ (λ i. decimal a ++ (part (sym p i) b ++ part (sym q i) k))

  pub first_begins : (a b k : ℕ) (s : List ℕ) → Operands c s a b k → Begins 255 s a (part w b ++ part u k)
  first_begins a b k s o = record { small = o.first; ended = part_ends w b (part u k) (last_ends u k); split = second_is a b k s o }

  second_follows : (a b k : ℕ) (s : List ℕ) → Operands c s a b k → Follows w (part w b ++ part u k) b (part u k)
  second_follows a b k s o = record { small = o.second; unwritten = λ e. o.single (sym p ∙ e); ended = λ e. last_ends u k; split = refl }

  k_follows : (a b k : ℕ) (s : List ℕ) → Operands c s a b k → Follows u (part u k) k []
  k_follows a b k s o = record { small = o.k_small; unwritten = λ e. o.no_k (sym q ∙ e); ended = λ e. tt; split = sym (append-nil (part u k)) }

  -- what is left after the first wire, after the second, and after k
  pub after_first : (s : List ℕ) (v : ℕ) (r : List ℕ) → Begins 255 s v r → (a b k : ℕ) → Operands c s a b k → (v ≡ a) × Follows w r b (part u k)
  after_first s v r h a b k o =
      let same = begins_same 255 s v a r (part w b ++ part u k) (omega arith) h (first_begins a b k s o) in
      (same.0, subst (λ (l : List ℕ). Follows w l b (part u k)) (sym same.1) (second_follows a b k s o))

  pub after_second : (s : List ℕ) (v : ℕ) (r : List ℕ) (x : ℕ) (t : List ℕ) → Begins 255 s v r → Follows w r x t → (a b k : ℕ) → Operands c s a b k → (x ≡ b) × Follows u t k []
  after_second s v r x t h f a b k o =
      let same = follows_same w r x b t (part u k) f (after_first s v r h a b k o).1 in
      (same.0, subst (λ (l : List ℕ). Follows u l k []) (sym same.1) (k_follows a b k s o))

  pub after_k : (s : List ℕ) (v : ℕ) (r : List ℕ) (x : ℕ) (t : List ℕ) (y : ℕ) (l : List ℕ) → Begins 255 s v r → Follows w r x t → Follows u t y l → (a b k : ℕ) → Operands c s a b k → (y ≡ k) × (l ≡ [])
  after_k s v r x t y l h f g a b k o = follows_same u t y k l [] g (after_second s v r x t h f a b k o).1

-- a text is made of at most one row's operands
pub operands_same : (c : ℕ) (s : List ℕ) (a b k x y z : ℕ) → Operands c s a b k → Operands c s x y z → (a ≡ x) × (b ≡ y) × (k ≡ z)
operands_same c s a b k x y z o m =
    let h = first_begins c (on_two c) (has_k c) refl refl a b k s o in
    let one = after_first c (on_two c) (has_k c) refl refl s a _ h x y z m in
    let f = (after_first c (on_two c) (has_k c) refl refl s a _ h a b k o).1 in
    let two = after_second c (on_two c) (has_k c) refl refl s a _ b _ h f x y z m in
    let g = (after_second c (on_two c) (has_k c) refl refl s a _ b _ h f a b k o).1 in
    (one.0, two.0, (after_k c (on_two c) (has_k c) refl refl s a _ b _ k [] h f g x y z m).0)
