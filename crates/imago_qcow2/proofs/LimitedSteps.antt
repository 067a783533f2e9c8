-- An opening within a limit on tables, and one without.
-- SPDX-License-Identifier: MIT
use Rattle.std.proofs.Common.{◌≡◌, ◌⊎◌, ⊎_elim, ℕ, List, Option, None, inl, inr, length, Err, refl}
use Rattle.imago_storage.specs.declared.error.Error.{Error}
use Rattle.imago_storage.specs.Features.{Features}
use Rattle.imago_drivers.specs.Reasons.{allowed}
use Rattle.imago_qcow2.specs.declared.fault.OpenFault.{OpenFault}
use Rattle.imago_qcow2.specs.declared.fault.OpenFault.TheVariants as O
use Rattle.imago_qcow2.specs.declared.header.Header.{Header}
use Rattle.imago_qcow2.specs.Fault.{by_fault}
use Rattle.imago_qcow2.specs.Header.{header_of, NamesBacking}
use Rattle.imago_qcow2.specs.Limit.{NeedMore, TablesNeedMore}
use Rattle.imago_qcow2.specs.Opening.{header_reasons, tables_reasons, IsRefusedOpening, IsRefusedAlone}
use Rattle.imago_qcow2.specs.Tables.{header_cluster, header_tables, IsAccepted, IsHeadRead}
use Rattle.imago_qcow2.proofs.ToldSteps.{start_of, tables_late}

-- why tables aren't read, by other names of what the header says
pub tables_fault_late : (f : Features) (bytes : List ℕ) (h : Header) (count cluster : ℕ) (most : Option ℕ) (Q : Error → Type 0) (fault : OpenFault) → IsAccepted f bytes h
    → count ≡ header_tables h → cluster ≡ header_cluster h
    → by_fault (allowed (tables_reasons f bytes h.l1_start count cluster)) (NeedMore f bytes h.l1_start count cluster most) fault
    → by_fault (λ e. IsRefusedOpening f bytes e ⊎ Q e) (TablesNeedMore f bytes most) fault
tables_fault_late f bytes h count cluster most Q (O.Driver e) x a b r = inl (tables_late f bytes h h.l1_start count cluster e x refl a b r)
tables_fault_late f bytes h count cluster most Q O.TablesTooLarge x a b r =
    let here : NeedMore f bytes h.l1_start (header_tables h) (header_cluster h) most = rw (← a, ← b) r in
    (h, x, here)

-- without a limit no tables are too large
pub none_too_large : (f : Features) (bytes : List ℕ) → TablesNeedMore f bytes None → ⊥
none_too_large f bytes x = ⊎_elim (λ l. l) (λ r. r.2) (x.2)

-- an image whose backing file is laid below it isn't refused for that
pub laid_below : (P Q : Error → Type 0) (T : Type 0) (fault : OpenFault) → ((e : Error) → Q e → ⊥) → by_fault (λ e. P e ⊎ Q e) T fault → by_fault P T fault
laid_below P Q T (O.Driver e) never r = ⊎_elim (λ p. p) (λ q. absurd (never e q)) r
laid_below P Q T O.TablesTooLarge never r = r

-- the same of an image that nothing is laid below
pub header_alone : (f : Features) (bytes : List ℕ) (e : Error) → ((head : List ℕ) × IsHeadRead f bytes head × (header_of head (length bytes) ≡ Err e)) ⊎ allowed (header_reasons f bytes) e → IsRefusedAlone f bytes e
header_alone f bytes e r = ⊎_elim (λ fault. inr (inl fault)) (λ start. inl (start_of f bytes e start)) r

pub tables_alone : (f : Features) (bytes : List ℕ) (h : Header) (count cluster : ℕ) (most : Option ℕ) (fault : OpenFault) → IsAccepted f bytes h → (NamesBacking h → ⊥)
    → count ≡ header_tables h → cluster ≡ header_cluster h
    → by_fault (allowed (tables_reasons f bytes h.l1_start count cluster)) (NeedMore f bytes h.l1_start count cluster most) fault
    → by_fault (IsRefusedAlone f bytes) (TablesNeedMore f bytes most) fault
tables_alone f bytes h count cluster most (O.Driver e) x none a b r =
    let here : allowed (tables_reasons f bytes h.l1_start (header_tables h) (header_cluster h)) e = rw (← a, ← b) r in
    inr (inr (inr (h, x, none, here)))
tables_alone f bytes h count cluster most O.TablesTooLarge x none a b r =
    let here : NeedMore f bytes h.l1_start (header_tables h) (header_cluster h) most = rw (← a, ← b) r in
    (h, x, here)
