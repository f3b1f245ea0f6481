use Rattle.std.proofs.Common.{rules}
use borrow.Fn.World.{World}
use borrow.Fn.Written as Written
use borrow.Fn.Run.{Over}
use contract.Running.{tables_of}
use Rattle.audit.proofs.Held.{held}
use Rattle.audit.proofs.Worth.{audited}
use Rattle.audit.proofs.whole.audit.Statement.{statement}
use Rattle.audit.proofs.whole.audit.Code as code
use Rattle.audit.proofs.whole.audit.Kinds as kinds
use Rattle.audit.proofs.whole.audit.Lts as lts
use Rattle.audit.proofs.whole.audit.Reads as reads
use Rattle.audit.proofs.whole.audit.Tie as tie

play_requires : tie.Need-play-requires
play_requires c κs = search rules

-- a lent slice keeps its length
shape_of-trials : tie.Need-shape_of-trials
shape_of-trials c = search rules

returns : tie.Need-returns
returns c = search rules

pub audit_spec : {M : Type 1} → statement M
unfolding tables_of
audit_spec {M} 𝓤 𝓛 𝓜 𝓡 w =
    let wd : World = record { M = M; 𝓤 = 𝓤; 𝓛 = 𝓛; 𝓜 = 𝓜; 𝓡 = 𝓡 } in
    Written.close 2 kinds.ps kinds.r reads.Ghost reads.requires reads.ensures reads.pre_read reads.Pinned reads.Owned reads.post_read wd 𝓡.env _ code.function
    (code.unfolded 𝓤 𝓛.H 𝓜 𝓡 w) (λ κs a g. tt) (λ κs. reads.owns κs wd)
    (λ κs a g r ws ft p q. held wd _ (audited _ _ _ _ r q.0 q.1))
    (λ g. Written.at_code 𝓤 𝓛.H _ _ lts.function code.function tie.same_locals tie.same_body _
    (tie.spec play_requires shape_of-trials returns 𝓤 𝓛 (Over 𝓛 𝓜 𝓡 𝓡.env) (tie.known-0 𝓤 𝓛 𝓜 𝓡 w)))
