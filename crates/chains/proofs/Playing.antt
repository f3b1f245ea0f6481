-- A circuit run on a machine, row by row.
use Rattle.std.proofs.Common.{◌≡◌, ℕ, zero, suc, ◌+◌, ◌<◌, List, [], ◌∷◌, ◌++◌, map, length, get_or, take, drop, Some, None, sym, refl, ap, ◌∙◌, arith}
use Rattle.std.proofs.lemmas.List.{length-map, map_push, take_more}
use Rattle.rows.specs.declared.row.Gate.{Gate as GateRow}
use Rattle.rows.specs.Steps.{Gate, Step, gate, gate_of}
use Rattle.machine.specs.Machines.{Acts, act, run}
use Rattle.chains.specs.Chained.{Decodes}

run_push : {State : Type 0} (m : Acts State) (ts : List Step) (t : Step) (u : State) → run m (ts ++ t ∷ []) u ≡ act m t (run m ts u)
run_push m [] t u = refl
run_push m (s ∷ ts) t u = run_push m ts t (act m s u)

pub decoded_length : (n : ℕ) (rows : List GateRow) (gs : List Gate) → Decodes n rows gs → length rows ≡ length gs
decoded_length n rows gs d = sym (length-map rows (gate_of n)) ∙ ap length d ∙ length-map gs (λ g. Some g)

-- the row at a place writes the gate at that place
pub decoded_at : (n : ℕ) (rows : List GateRow) (gs : List Gate) (i : ℕ) (r : GateRow) (h : Gate) → Decodes n rows gs → i < length rows → gate_of n (get_or rows i r) ≡ Some (get_or gs i h)
decoded_at n [] gs i r h d lt = absurd (omega arith)
decoded_at n (row ∷ rows) [] i r h d lt = absurd (omega (arith, ap length d))
decoded_at n (row ∷ rows) (g ∷ gs) zero r h d lt = ap (λ l. get_or l 0 None) d
decoded_at n (row ∷ rows) (g ∷ gs) (suc i) r h d lt = decoded_at n rows gs i r h (ap (drop 1) d) (omega arith)

-- one gate more is run
pub run_more : {State : Type 0} (m : Acts State) (n : ℕ) (rows : List GateRow) (gs : List Gate) (i : ℕ) (h : Gate) (start u v : State) → Decodes n rows gs → i < length rows →
    u ≡ run m (map gate (take i gs)) start → v ≡ m.gated (get_or gs i h) u → v ≡ run m (map gate (take (i + 1) gs)) start
run_more m n rows gs i h start u v d lt p q =
    let short : i < length gs = omega (arith, decoded_length n rows gs d) in
    q ∙ ap (m.gated (get_or gs i h)) p
    ∙ sym (run_push m (map gate (take i gs)) (gate (get_or gs i h)) start)
    ∙ ap (λ ts. run m ts start) (sym (ap (map gate) (take_more gs i h short) ∙ map_push gate (take i gs) (get_or gs i h)))
