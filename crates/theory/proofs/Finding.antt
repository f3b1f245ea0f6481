-- If at each of a gate's wires it comes first among the open gates, it is one of the open gates, and no earlier open one
-- shares a wire with it.
use Rattle.std.proofs.Common.{◌≡◌, ℕ, zero, suc, ◌<◌, Bool, true, false, cond, ◌||◌, eqb, ◌⊎◌, List, [], ◌∷◌, map, length, get_or, set, sym, refl, ap, ◌∙◌, ap₂, inl, inr, suc-le-suc, le_of_suc-le-suc, not-suc-le-zero, arith}
use Rattle.std.proofs.lemmas.Bool.Decides.{nat_tests}
use Rattle.std.proofs.lemmas.Bool.{true≢false, false≢true, cond-true, cond-false, or_cases, or_parts, eqb-true, eq-eqb}
use Rattle.rows.specs.Steps.{Gate, one, two, first_of, has, shares, relabel, trade}
use Rattle.theory.proofs.Order.{number}
use Rattle.theory.proofs.Recording.{on}

has_first : (g : Gate) → has g (first_of g) ≡ true
has_first (one κ k a) = grind (arith, nat_tests)
has_first (two κ k a b) = grind (arith, nat_tests)

-- gates that share a place have one in common, and others have none
common : (e g : Gate) → shares e g ≡ true → (w : ℕ) × (has e w ≡ true) × (has g w ≡ true)
common e (one κ k a) h = (a, h, eq-eqb a a refl)
common e (two κ k a b) h = go (or_cases (has e a) (has e b) h)
  where
    go : (has e a ≡ true) ⊎ (has e b ≡ true) → (w : ℕ) × (has e w ≡ true) × (has (two κ k a b) w ≡ true)
    go (inl i) = (a, i, grind (arith, nat_tests))
    go (inr i) = (b, i, grind (arith, nat_tests))

uncommon : (e g : Gate) → shares e g ≡ false → (w : ℕ) → has g w ≡ true → has e w ≡ false
uncommon e (one κ k a) h w i = rw (eqb-true a w i) at h
uncommon e (two κ k a b) h w i = go (or_cases (eqb a w) (eqb b w) i) (or_parts (has e a) (has e b) h)
  where
    go : (eqb a w ≡ true) ⊎ (eqb b w ≡ true) → (has e a ≡ false) × (has e b ≡ false) → has e w ≡ false
    go (inl j) (na, nb) = rw (eqb-true a w j) at na
    go (inr j) (na, nb) = rw (eqb-true b w j) at nb

-- the open gates, in circuit order
abbrev pub open_of : List Bool → List Gate → List Gate
open_of [] gs = []
open_of (d ∷ ds) [] = []
open_of (true ∷ ds) (g ∷ gs) = open_of ds gs
open_of (false ∷ ds) (g ∷ gs) = g ∷ open_of ds gs

pub on_has : (w : ℕ) (g : Gate) (gs : List Gate) → has g w ≡ true → on w (g ∷ gs) ≡ g ∷ on w gs
on_has w g gs h = cond-true _ _ _ h

on_not : (w : ℕ) (g : Gate) (gs : List Gate) → has g w ≡ false → on w (g ∷ gs) ≡ on w gs
on_not w g gs h = cond-false _ _ _ h

head_same : {e g : Gate} {l r : List Gate} → e ∷ l ≡ g ∷ r → e ≡ g
head_same h = cc

tail_same : {e g : Gate} {l r : List Gate} → e ∷ l ≡ g ∷ r → l ≡ r
tail_same h = cc

nil_cons : {g : Gate} {r : List Gate} → [] ≡ g ∷ r → ⊥
nil_cons h = let z : ◌≡◌ {A = ℕ} 0 1 = cc in omega arith

-- gate i of gs is g, open, and no earlier open gate shares a place with it; without it the same is left at each wire
pub record Found (g : Gate) (ds : List Bool) (gs : List Gate) (i : ℕ) : Type 0 where
  pub listed : i < length gs
  pub is_open : get_or ds i true ≡ false
  pub same : number gs i ≡ g
  pub earliest : (j : ℕ) → j < i → get_or ds j true ≡ false → shares (number gs j) (number gs i) ≡ false
  pub rest : (w : ℕ) → on w (open_of ds gs) ≡ on w (g ∷ open_of (set ds i true) gs)

-- two gates that share no place, in either order
either_order : (w : ℕ) (e g : Gate) (l r : List Gate) → shares e g ≡ false → on w l ≡ on w (g ∷ r) → on w (e ∷ l) ≡ on w (g ∷ e ∷ r)
either_order w e g l r n h = go (has e w) (has g w) refl refl
  where
    go : (s t : Bool) → has e w ≡ s → has g w ≡ t → on w (e ∷ l) ≡ on w (g ∷ e ∷ r)
    go true true i j = absurd (false≢true (sym (uncommon e g n w j) ∙ i))
    go true false i j = on_has w e l i ∙ ap (λ x. e ∷ x) (h ∙ on_not w g r j) ∙ sym (on_not w g (e ∷ r) j ∙ on_has w e r i)
    go false true i j = on_not w e l i ∙ h ∙ on_has w g r j ∙ ap (λ x. g ∷ x) (sym (on_not w e r i)) ∙ sym (on_has w g (e ∷ r) j)
    go false false i j = on_not w e l i ∙ h ∙ on_not w g r j ∙ sym (on_not w g (e ∷ r) j ∙ on_not w e r i)

found_here : (g e : Gate) (ds : List Bool) (gs : List Gate) → e ≡ g → Found g (false ∷ ds) (e ∷ gs) 0
found_here g e ds gs s = record {
  listed = omega arith;
  is_open = refl;
  same = s;
  earliest = λ j k o. absurd (not-suc-le-zero k);
  rest = λ w. ap (λ c. on w (c ∷ open_of ds gs)) s;
}

past_done : (g e : Gate) (ds : List Bool) (gs : List Gate) (i : ℕ) → Found g ds gs i → Found g (true ∷ ds) (e ∷ gs) (suc i)
past_done g e ds gs i f = record { listed = suc-le-suc f.listed; is_open = f.is_open; same = f.same; earliest = go; rest = f.rest }
  where
    go : (j : ℕ) → j < suc i → get_or (true ∷ ds) j true ≡ false → shares (number (e ∷ gs) j) (number gs i) ≡ false
    go zero k o = absurd (true≢false o)
    go (suc j) k o = f.earliest j (le_of_suc-le-suc k) o

past_open : (g e : Gate) (ds : List Bool) (gs : List Gate) (i : ℕ) → shares e g ≡ false → Found g ds gs i → Found g (false ∷ ds) (e ∷ gs) (suc i)
past_open g e ds gs i n f = record {
  listed = suc-le-suc f.listed;
  is_open = f.is_open;
  same = f.same;
  earliest = go;
  rest = λ w. either_order w e g (open_of ds gs) (open_of (set ds i true) gs) n (f.rest w);
}
  where
    go : (j : ℕ) → j < suc i → get_or (false ∷ ds) j true ≡ false → shares (number (e ∷ gs) j) (number gs i) ≡ false
    go zero k o = ap (shares e) f.same ∙ n
    go (suc j) k o = f.earliest j (le_of_suc-le-suc k) o

-- at each wire of g it comes first among the open gates
abbrev Leading : Gate → List Bool → List Gate → Type 0
Leading g ds gs = (w : ℕ) → has g w ≡ true → (r : List Gate) × (on w (open_of ds gs) ≡ g ∷ r)

-- not so where none is open
none_leads : (g : Gate) → ((w : ℕ) → has g w ≡ true → (r : List Gate) × ([] ≡ g ∷ r)) → ⊥
none_leads g h = nil_cons (h (first_of g) (has_first g)).1

-- the first open gate that shares a place with g is g
pub find : (g : Gate) (ds : List Bool) (gs : List Gate) → Leading g ds gs → (i : ℕ) × Found g ds gs i
find g [] gs h = absurd (none_leads g h)
find g (true ∷ ds) [] h = absurd (none_leads g h)
find g (false ∷ ds) [] h = absurd (none_leads g h)
find g (true ∷ ds) (e ∷ gs) h = let (i, f) = find g ds gs h in (suc i, past_done g e ds gs i f)
find g (false ∷ ds) (e ∷ gs) h = go (λ k. find g ds gs k) (shares e g) refl
  where
    go : (Leading g ds gs → (i : ℕ) × Found g ds gs i) → (t : Bool) → shares e g ≡ t → (i : ℕ) × Found g (false ∷ ds) (e ∷ gs) i
    go later true s =
        let (w, he, hg) = common e g s in
        let (r, q) = h w hg in
        (0, found_here g e ds gs (head_same (sym (on_has w e (open_of ds gs) he) ∙ q)))
    go later false s =
        let (i, f) = later (λ w hg. let (r, q) = h w hg in (r, sym (on_not w e (open_of ds gs) (uncommon e g s w hg)) ∙ q)) in
        (suc i, past_open g e ds gs i s f)

-- nothing left at any wire: no gate is open
pub none_open : (ds : List Bool) (gs : List Gate) → ((w : ℕ) → [] ≡ on w (open_of ds gs)) → (i : ℕ) → i < length gs → ¬ (get_or ds i true ≡ false)
none_open [] gs h i k o = true≢false o
none_open (d ∷ ds) [] h i k o = not-suc-le-zero k
none_open (true ∷ ds) (g ∷ gs) h zero k o = true≢false o
none_open (true ∷ ds) (g ∷ gs) h (suc i) k o = none_open ds gs h i (le_of_suc-le-suc k) o
none_open (false ∷ ds) (g ∷ gs) h i k o = nil_cons (h (first_of g) ∙ on_has (first_of g) g (open_of ds gs) (has_first g))

-- without its first gate, the same is left at each wire
pub same_tail : (w : ℕ) (g : Gate) (l r : List Gate) → on w (g ∷ l) ≡ on w (g ∷ r) → on w l ≡ on w r
same_tail w g l r h = go (has g w) refl
  where
    go : (t : Bool) → has g w ≡ t → on w l ≡ on w r
    go true i = tail_same (sym (on_has w g l i) ∙ h ∙ on_has w g r i)
    go false i = sym (on_not w g l i) ∙ h ∙ on_not w g r i

-- gates at traded wires
eqb_trade : (a b c w : ℕ) → eqb (trade a b c) w ≡ eqb c (trade a b w)
eqb_trade a b c w = grind (arith, nat_tests)

has_trade : (a b w : ℕ) (g : Gate) → has (relabel (trade a b) g) w ≡ has g (trade a b w)
has_trade a b w (one κ k c) = eqb_trade a b c w
has_trade a b w (two κ k c d) = ap₂ ◌||◌ (eqb_trade a b c w) (eqb_trade a b d w)

pub on_trade : (a b w : ℕ) (gs : List Gate) → on w (map (relabel (trade a b)) gs) ≡ map (relabel (trade a b)) (on (trade a b w) gs)
on_trade a b w [] = refl
on_trade a b w (g ∷ gs) = go (has g (trade a b w)) (has_trade a b w g) (on_trade a b w gs)
  where
    go : (t : Bool) → has (relabel (trade a b) g) w ≡ t → on w (map (relabel (trade a b)) gs) ≡ map (relabel (trade a b)) (on (trade a b w) gs) →
        on w (relabel (trade a b) g ∷ map (relabel (trade a b)) gs) ≡ map (relabel (trade a b)) (cond t (g ∷ on (trade a b w) gs) (on (trade a b w) gs))
    go true h ih = on_has w (relabel (trade a b) g) (map (relabel (trade a b)) gs) h ∙ ap (λ l. relabel (trade a b) g ∷ l) ih
    go false h ih = on_not w (relabel (trade a b) g) (map (relabel (trade a b)) gs) h ∙ ih

pub open_map : (f : Gate → Gate) (ds : List Bool) (gs : List Gate) → open_of ds (map f gs) ≡ map f (open_of ds gs)
open_map f [] gs = refl
open_map f (true ∷ ds) [] = refl
open_map f (false ∷ ds) [] = refl
open_map f (true ∷ ds) (g ∷ gs) = open_map f ds gs
open_map f (false ∷ ds) (g ∷ gs) = ap (λ l. f g ∷ l) (open_map f ds gs)
