-- Lines put one after the other.
use Rattle.std.proofs.Common.{◌≡◌, ℕ, ◌+◌, ◌<◌, List, ◌++◌, length, get_or, take, sym, ap, ◌∙◌}
use Rattle.std.specs.List.{flat_map}
use Rattle.std.proofs.lemmas.List.{append_assoc, take_more, flat_map_more}

-- one line more
pub line_more : {X : Type 0} (f : X → List ℕ) (xs : List X) (i : ℕ) (d : X) (start before after : List ℕ) → i < length xs →
    before ≡ start ++ flat_map f (take i xs) → after ≡ before ++ f (get_or xs i d) → after ≡ start ++ flat_map f (take (i + 1) xs)
line_more f xs i d start before after h p q =
    q ∙ ap (λ l. l ++ f (get_or xs i d)) p ∙ flat_map_more f start (take i xs) (get_or xs i d) ∙ ap (λ l. start ++ flat_map f l) (sym (take_more xs i d h))

-- five parts more
pub five_parts : (o o1 o2 o3 o4 o5 a b c d e : List ℕ) → o1 ≡ o ++ a → o2 ≡ o1 ++ b → o3 ≡ o2 ++ c → o4 ≡ o3 ++ d → o5 ≡ o4 ++ e →
    o5 ≡ o ++ (a ++ (b ++ (c ++ (d ++ e))))
five_parts o o1 o2 o3 o4 o5 a b c d e p1 p2 p3 p4 p5 =
    let q2 : o2 ≡ (o ++ a) ++ b = p2 ∙ ap (λ l. l ++ b) p1 in
    let q3 : o3 ≡ ((o ++ a) ++ b) ++ c = p3 ∙ ap (λ l. l ++ c) q2 in
    let q4 : o4 ≡ (((o ++ a) ++ b) ++ c) ++ d = p4 ∙ ap (λ l. l ++ d) q3 in
    p5 ∙ ap (λ l. l ++ e) q4 ∙ simp append_assoc
