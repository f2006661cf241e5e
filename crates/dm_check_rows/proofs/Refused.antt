-- Whether a message is refused as it is said to be.
use Rattle.std.proofs.Common.{◌≡◌, ℕ, Bool, true, false, subst, inl, inr}
use Rattle.dm_network.specs.Net.{Net}
use Rattle.dm_rows.specs.declared.messages.Message.{Message}
use Rattle.dm_rows.specs.declared.messages.Refusal.{Refusal}
use Rattle.dm_rows.specs.declared.messages.Refusal.TheVariants as refusal
use Rattle.dm_rows.specs.Rows.{RowsValue}
use Rattle.dm_rows.specs.Refuse.{Refuses, RefusesAtOnce, RefusesAdmission}
use Rattle.dm_check_rows.specs.Claims.{Tells}
use Rattle.dm_check_rows.proofs.AtOnce.{refuses_at_once}
use Rattle.dm_check_rows.proofs.OneCause.{one_cause}

-- what is refused not for want of memory is refused at once
pub at_once : (net : Net) (rows : RowsValue) (m : Message) (r : Refusal) → (r ≡ refusal.OutOfMemory → ⊥) → RefusesAdmission net rows m r → RefusesAtOnce net rows m r
at_once net rows m r other (inl once) = once
at_once net rows m r other (inr want) = absurd (other want.1)

-- beside a refusal at once there is no other
one_refusal : (net : Net) (rows : RowsValue) (n : ℕ) (m : Message) (r s : Refusal) → RefusesAtOnce net rows m r → Refuses net rows n m s → r ≡ s
one_refusal net rows n m r (refusal.Cycle ids) once other = absurd (other.0 r once)
one_refusal net rows n m r (refusal.Full k) once other = absurd (other.0 r once)
one_refusal net rows n m r refusal.OutOfMemory once other = absurd other
one_refusal net rows n m r s once other = one_cause net rows m r s once other

pub told_at_once : (net : Net) (rows : RowsValue) (n : ℕ) (m : Message) (r s : Refusal) (b : Bool) → RefusesAtOnce net rows m r → Tells (r ≡ s) b → Tells (Refuses net rows n m s) b
told_at_once net rows n m r s true once same = subst (λ (x : Refusal). Refuses net rows n m x) same (refuses_at_once net rows n m r once)
told_at_once net rows n m r s false once differs = λ other. differs (one_refusal net rows n m r s once other)
