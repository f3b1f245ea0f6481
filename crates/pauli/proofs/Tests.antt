-- One computed test over a table, and what it says at each entry.
use Rattle.std.proofs.Common.{◌≡◌, Bool, true, false, ◌&&◌, eqb, ◌⊎◌, List, [], ◌∷◌, ℤ, pos, negsuc, refl, ap, ◌∙◌, inl, inr}
use Rattle.std.proofs.lemmas.Bool.{and_parts, eqb-true, false≢true}
use Rattle.rows.specs.declared.kind.Kind.{Kind}
use Rattle.pauli.specs.declared.Letter.{Letter}
use Rattle.pauli.specs.Letters.{letter}
use Rattle.pauli.specs.Matrices.{Gauss, Matrix}

module _ {A : Type 0} where
  abbrev pub every : (A → Bool) → List A → Bool
  every f [] = true
  every f (x ∷ xs) = f x && every f xs

  abbrev pub Among : A → List A → Type 0
  Among a [] = ⊥
  Among a (x ∷ xs) = (a ≡ x) ⊎ Among a xs

  pub every_at : (f : A → Bool) (xs : List A) → every f xs ≡ true → (a : A) → Among a xs → f a ≡ true
  every_at f [] e a m = absurd m
  every_at f (x ∷ xs) e a (inl q) = ap f q ∙ (and_parts (f x) (every f xs) e).0
  every_at f (x ∷ xs) e a (inr m) = every_at f xs (and_parts (f x) (every f xs) e).1 a m

  -- a test of equality goes over to lists
  abbrev pub Sound : (A → A → Bool) → Type 0
  Sound t = (a b : A) → t a b ≡ true → a ≡ b

  abbrev pub same_list : (A → A → Bool) → List A → List A → Bool
  same_list t [] [] = true
  same_list t [] (y ∷ ys) = false
  same_list t (x ∷ xs) [] = false
  same_list t (x ∷ xs) (y ∷ ys) = t x y && same_list t xs ys

  pub sound_list : (t : A → A → Bool) → Sound t → (xs ys : List A) → same_list t xs ys ≡ true → xs ≡ ys
  sound_list t h [] [] e = refl
  sound_list t h [] (y ∷ ys) e = absurd (false≢true e)
  sound_list t h (x ∷ xs) [] e = absurd (false≢true e)
  sound_list t h (x ∷ xs) (y ∷ ys) e =
      let q = and_parts (t x y) (same_list t xs ys) e in
      λ i. h x y q.0 i ∷ sound_list t h xs ys q.1 i

abbrev whole : ℤ → ℤ → Bool
whole (pos a) (pos b) = eqb a b
whole (pos a) (negsuc b) = false
whole (negsuc a) (pos b) = false
whole (negsuc a) (negsuc b) = eqb a b

sound_whole : (a b : ℤ) → whole a b ≡ true → a ≡ b
sound_whole (pos a) (pos b) e = ap pos (eqb-true a b e)
sound_whole (pos a) (negsuc b) e = absurd (false≢true e)
sound_whole (negsuc a) (pos b) e = absurd (false≢true e)
sound_whole (negsuc a) (negsuc b) e = ap negsuc (eqb-true a b e)

abbrev number : Gauss → Gauss → Bool
number a b = whole a.re b.re && whole a.im b.im

sound_number : (a b : Gauss) → number a b ≡ true → a ≡ b
sound_number a b e =
    let q = and_parts (whole a.re b.re) (whole a.im b.im) e in
    λ i. record { re = sound_whole a.re b.re q.0 i; im = sound_whole a.im b.im q.1 i }

abbrev pub same : Matrix → Matrix → Bool
same = same_list (same_list number)

pub sound_same : (m n : Matrix) → same m n ≡ true → m ≡ n
sound_same = sound_list (same_list number) (sound_list number sound_number)

-- the entries
abbrev pub kinds : List Kind
kinds = Kind.X ∷ Kind.Y ∷ Kind.Z ∷ Kind.H ∷ Kind.S ∷ Kind.Sdag ∷ Kind.T ∷ Kind.Tdag ∷ Kind.Cnot ∷ Kind.Cz ∷ Kind.Crk ∷ []

pub all_kinds : (k : Kind) → Among k kinds
all_kinds Kind.X = inl refl
all_kinds Kind.Y = inr (inl refl)
all_kinds Kind.Z = inr (inr (inl refl))
all_kinds Kind.H = inr (inr (inr (inl refl)))
all_kinds Kind.S = inr (inr (inr (inr (inl refl))))
all_kinds Kind.Sdag = inr (inr (inr (inr (inr (inl refl)))))
all_kinds Kind.T = inr (inr (inr (inr (inr (inr (inl refl))))))
all_kinds Kind.Tdag = inr (inr (inr (inr (inr (inr (inr (inl refl)))))))
all_kinds Kind.Cnot = inr (inr (inr (inr (inr (inr (inr (inr (inl refl))))))))
all_kinds Kind.Cz = inr (inr (inr (inr (inr (inr (inr (inr (inr (inl refl)))))))))
all_kinds Kind.Crk = inr (inr (inr (inr (inr (inr (inr (inr (inr (inr (inl refl))))))))))

abbrev pub signs : List Bool
signs = false ∷ true ∷ []

pub all_signs : (m : Bool) → Among m signs
all_signs false = inl refl
all_signs true = inr (inl refl)

abbrev pub letters : List Letter
letters = letter false false ∷ letter true false ∷ letter true true ∷ letter false true ∷ []

pub all_letters : (u : Letter) → Among u letters
all_letters u = by u.x u.z
  where
    by : (x z : Bool) → Among (letter x z) letters
    by false false = inl refl
    by true false = inr (inl refl)
    by true true = inr (inr (inl refl))
    by false true = inr (inr (inr (inl refl)))
