use Rattle.target_parts.proofs.StartLaws.{signing}
use Rattle.target_parts.proofs.site.signed_start.Goals as goal
use Rattle.target_parts.proofs.site.signed_start.Goals.{else-signed-via-then-signed+then-high-lt64+else-shr64-eq1, else-signed-via-then-signed+else-high-lt64, else-signed-via-else-signed}

pub returns-then-shr64-eq1 : goal.returns-then-shr64-eq1
returns-then-shr64-eq1 c = search signing

pub returns-else-signed : goal.returns-else-signed
returns-else-signed c =
    elim c.else-signed.branch [
      | else-signed-via-then-signed+then-high-lt64+else-shr64-eq1 w ↦ search signing
      | else-signed-via-then-signed+else-high-lt64 w ↦ search signing
      | else-signed-via-else-signed w ↦ search signing
    ]
