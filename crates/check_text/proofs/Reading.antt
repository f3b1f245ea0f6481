-- The statements before and after the line `steps`, one after the other.
use Rattle.std.proofs.Common.{◌≡◌, ℕ, ◌+◌, Bool, true, false, List, [], ◌∷◌, ◌++◌, IfSome, Some, None, Option, Bor, codes, sym, refl, ap, subst, inl, inr, arith}
use Rattle.std.specs.Bool.{Decides}
use Rattle.std.specs.Fn.{CalledAt}
use Rattle.std.specs.Iterator.{Yields}
use Rattle.std.specs.List.{FoldsTo}
use Rattle.std.proofs.lemmas.List.{append-nil}
use denote.Param.Members.{Mut}
use Rattle.text.specs.declared.lexer.Lexer.{Lexer}
use Rattle.text.specs.declared.lexer.Word.{Word}
use Rattle.text.specs.Reading.{Statement, lines, statements}
use Rattle.text.specs.Lexing.{left, Lexes}
use Rattle.audit.specs.declared.trial.Trial.{Trial}
use Rattle.check_text.specs.Stepping.{AfterSteps, ReadAs, UnreadableAt}

-- a search for the statement `steps`, whose test is whether a statement is that
module _ {F : Type 0} (g : Mut F (Bor Word × Unit {0}) Bool) (told : (f : F) (x : Word) (b : Bool) (q : F) → CalledAt g f x b q → Decides b (x.bytes.now ≡ codes "steps")) where
  -- it ends at that statement, or where none is left
  ends : (f : F) (s t : Lexer) (r : Option Word) → Lexes s r t → IfSome r (λ x. (h : F) × CalledAt g f x true h) → AfterSteps (left s) (left t)
  ends f s t None l h = subst (λ ss. AfterSteps ss (left t)) (sym l.0) (ap (λ bs. statements (t.passed + 1) (lines bs)) l.1)
  ends f s t (Some x) l h = subst (λ ss. AfterSteps ss (left t)) (sym l.0) (inl ((told f x true h.0 h.1).0 refl, refl))

  pub found : (xs : List Word) (f q : F) (s m t : Lexer) (r : Option Word) → Yields Lexes s xs m → Lexes m r t → FoldsTo (λ p x j. CalledAt g p x false j) f xs q →
      IfSome r (λ x. (h : F) × CalledAt g q x true h) → AfterSteps (left s) (left t)
  found [] f q s m t r y l e h = ends q s t r (subst (λ k. Lexes k r t) (sym y) l) h
  found (x ∷ xs) f q s m t r y l e h =
      subst (λ ss. AfterSteps ss (left t)) (sym y.1.0)
      (inr ((λ is. let wrong = (told f x false e.0 e.1).1 is in let z : ◌≡◌ {A = ℕ} 0 1 = cc in omega arith), found xs e.0 q y.0 m t r y.2 l e.2 h))

-- so many steps are read: what is read of the statements that are left follows them
pub record Reached (all left : List Statement) (ts : List Trial) : Type 0 where
  pub reads : (us : List Trial) → ReadAs left us → ReadAs all (ts ++ us)
  pub stops : (n : ℕ) → UnreadableAt left n → UnreadableAt all n

pub reached_all : (all left : List Statement) (ts : List Trial) → left ≡ [] → Reached all left ts → ReadAs all ts
reached_all all left ts e r = subst (ReadAs all) (append-nil ts) (r.reads [] (subst (λ l. ReadAs l []) (sym e) refl))
