-- A limit on tables, as they are loaded one after the other.
-- SPDX-License-Identifier: MIT
use Rattle.std.proofs.Common.{◌≡◌, ℕ, zero, suc, ◌+◌, ◌-◌, ◌*◌, ◌≤◌, ⊎_elim, Bool, true, false, ◌||◌, List, [], ◌∷◌, length, Option, Some, None, is_some, inr, mul-le-mul_left, refl, sym, ap, ◌∙◌, subst, arith, ◌/◌}
use Rattle.std.specs.Prelude.{nat_eq, ◌<◌, Result, Ok, Err, OnOk, IfErr, replicate}
use Rattle.std.specs.BTreeMap.{get, is_at, Updates}
use Rattle.std.specs.Ordering.{nat_cmp}
use Rattle.std.proofs.lemmas.List.{length-replicate}
use Rattle.std.proofs.lemmas.Bool.{cases_eq, cases_Bool}
use Rattle.std.proofs.lemmas.Bool.Decides.{nat_tests}
use Rattle.imago_storage.specs.declared.error.Error.{Error}
use Rattle.imago_storage.specs.Features.{Features}
use Rattle.imago_drivers.specs.Reasons.{allowed}
use Rattle.imago_qcow2.specs.declared.entry.L2Table.{L2Table}
use Rattle.imago_qcow2.specs.declared.entry.L2Table.TheVariants as T
use Rattle.imago_qcow2.specs.declared.fault.OpenFault.{OpenFault}
use Rattle.imago_qcow2.specs.declared.fault.OpenFault.TheVariants as O
use Rattle.imago_qcow2.specs.declared.table.Loaded.{Loaded}
use Rattle.imago_qcow2.specs.Fault.{by_fault}
use Rattle.imago_qcow2.specs.declared.table.HeldTable.{HeldTable}
use Rattle.imago_qcow2.specs.Tables.{says_entry, AreEntriesRead}
use Rattle.imago_qcow2.specs.Opening.{read_reasons, entries_reasons, tables_reasons}
use Rattle.imago_qcow2.proofs.TableSteps.{table_refused, entries_refused}
use Rattle.imago_qcow2.specs.Limit.{IsBeyond, IsWithin, HasRoom, has_offset, with_offset, with_table, table_offsets, IsAccount, NeedMore, AreReadWithin, tables_length}

-- what is left behind more bytes
pub room_more : (limit room now : Option ℕ) (a b : ℕ) → HasRoom limit a room → HasRoom room b now → HasRoom limit (a + b) now
room_more None room now a b h k = subst (λ r. HasRoom r b now) h k
room_more (Some most) room now a b h k =
    let e : HasRoom (Some (most - a)) b now = subst (λ r. HasRoom r b now) (h.1) k in
    let f : a + b ≤ most = omega (arith, h.0, e.0) in
    let g : most - a - b ≡ most - (a + b) = omega arith in (f, e.1 ∙ ap Some g)

-- bytes for which nothing is left
pub beyond_more : (limit room : Option ℕ) (a b : ℕ) → HasRoom limit a room → IsBeyond room b → IsBeyond limit (a + b)
beyond_more None room a b h k = let e : IsBeyond None b = subst (λ r. IsBeyond r b) h k in e
beyond_more (Some most) room a b h k =
    let e : IsBeyond (Some (most - a)) b = subst (λ r. IsBeyond r b) (h.1) k in
    omega (arith, h.0, e)

pub within_more : (limit room : Option ℕ) (a b : ℕ) → HasRoom limit a room → IsWithin room b → IsWithin limit (a + b)
within_more None room a b h k = tt
within_more (Some most) room a b h k =
    let e : IsWithin (Some (most - a)) b = subst (λ r. IsWithin r b) (h.1) k in
    omega (arith, h.0, e)

pub within_room : (limit room : Option ℕ) (a : ℕ) → HasRoom limit a room → IsWithin limit a
within_room None room a h = tt
within_room (Some most) room a h = h.0

pub beyond_rises : (limit : Option ℕ) (a b : ℕ) → a ≤ b → IsBeyond limit a → IsBeyond limit b
beyond_rises None a b le h = h
beyond_rises (Some most) a b le h = omega (arith, le, h)

-- an offset that is counted already, and one that isn't
pub with_known : (at : ℕ) (offsets : List ℕ) → has_offset at offsets ≡ true → with_offset at offsets ≡ offsets
with_known at offsets h = rw h refl

pub with_new : (at : ℕ) (offsets : List ℕ) → has_offset at offsets ≡ false → with_offset at offsets ≡ at ∷ offsets
with_new at offsets h = rw h refl

not_at : (a q : ℕ) → (a ≡ q → ⊥) → is_at (nat_cmp a) q ≡ false
not_at a q apart = grind (arith, nat_tests)

not_equal : (a q : ℕ) → (a ≡ q → ⊥) → nat_eq a q ≡ false
not_equal a q apart = grind (arith, nat_tests)

equal : (a : ℕ) → nat_eq a a ≡ true
equal a = grind (arith, nat_tests)

offsets_more : (b c : Bool) → b ≡ false → (b || c) ≡ c
offsets_more b c h = rw h refl

module _ (offsets : List ℕ) (limit : Option ℕ) (cluster at : ℕ) where
  -- a table that is known
  pub account_known : (l : Loaded) (number : ℕ) → Some number ≡ get nat_cmp l.numbers at → IsAccount offsets limit cluster l → IsAccount (with_offset at offsets) limit cluster l
  account_known l number there a =
      let h : has_offset at offsets ≡ true = sym (a.known at) ∙ ap is_some (sym there) in
      let e : with_offset at offsets ≡ offsets = with_known at offsets h in
      rw e a

  unknown : (l : Loaded) → get nat_cmp l.numbers at ≡ None → IsAccount offsets limit cluster l → has_offset at offsets ≡ false
  unknown l none a = sym (a.known at) ∙ ap is_some none

  -- one for which there is room, and which is loaded
  pub account_more : (old now : Loaded) (number : ℕ) → get nat_cmp old.numbers at ≡ None → IsAccount offsets limit cluster old → length now.tables.items ≡ suc (length old.tables.items)
      → Updates nat_cmp old.numbers now.numbers at (Some number) → HasRoom old.room cluster now.room → IsAccount (with_offset at offsets) limit cluster now
  account_more old now number none a more u room =
      let h : has_offset at offsets ≡ false = unknown old none a in
      let e : with_offset at offsets ≡ at ∷ offsets = with_new at offsets h in
      let n : cluster * length offsets + cluster ≡ cluster * length (at ∷ offsets) = omega arith in
      let made : IsAccount (at ∷ offsets) limit cluster now = record {
        count = more ∙ ap suc a.count;
        known = λ q. ⊎_elim
            (λ (same : at ≡ q). let there : get nat_cmp now.numbers at ≡ Some number = u.1 in
            rw (← same, there, equal at) refl)
            (λ (apart : at ≡ q → ⊥). rw (u.2 q (not_at at q apart), not_equal at q apart) (a.known q))
            (cases_eq at q);
        room = rw (← n) (room_more limit old.room now.room (cluster * length offsets) cluster a.room room);
      } in
      rw e made

  -- one for which there is none
  pub account_full : (l : Loaded) → get nat_cmp l.numbers at ≡ None → IsAccount offsets limit cluster l → IsBeyond l.room cluster → IsBeyond limit (cluster * length (with_offset at offsets))
  account_full l none a full =
      let h : has_offset at offsets ≡ false = unknown l none a in
      let e : with_offset at offsets ≡ at ∷ offsets = with_new at offsets h in
      let n : cluster * length offsets + cluster ≡ cluster * length (at ∷ offsets) = omega arith in
      rw (e, ← n) (beyond_more limit l.room (cluster * length offsets) cluster a.room full)

-- no fewer tables are named by more entries
with_more : (says : L2Table) (offsets : List ℕ) → length offsets ≤ length (with_table says offsets)
with_more T.Absent offsets = omega arith
with_more T.Invalid offsets = omega arith
with_more (T.Stored at) offsets = ⊎_elim
    (λ (h : has_offset at offsets ≡ true). rw (with_known at offsets h) (omega arith))
    (λ (h : has_offset at offsets ≡ false). rw (with_new at offsets h) (omega arith))
    (cases_Bool (has_offset at offsets))

risen : (bytes : List ℕ) (cluster : ℕ) (entries : List ℕ) (n : ℕ) → length (table_offsets bytes cluster entries n) ≤ length (table_offsets bytes cluster entries (suc n))
unfolding table_offsets
risen bytes cluster entries n = with_more (says_entry bytes cluster entries n) (table_offsets bytes cluster entries n)

rise_by : (bytes : List ℕ) (cluster : ℕ) (entries : List ℕ) (n k m : ℕ) → m ≡ k + n → length (table_offsets bytes cluster entries n) ≤ length (table_offsets bytes cluster entries m)
rise_by bytes cluster entries n zero m e = let f : m ≡ n = omega (arith, e) in rw f (omega arith)
rise_by bytes cluster entries n (suc k) m e =
    let f : m ≡ suc (k + n) = omega (arith, e) in
    let x = rise_by bytes cluster entries n k (k + n) refl in
    let y = risen bytes cluster entries (k + n) in
    rw f (omega (arith, x, y))

pub offsets_rise : (bytes : List ℕ) (cluster : ℕ) (entries : List ℕ) (n m : ℕ) → n ≤ m → length (table_offsets bytes cluster entries n) ≤ length (table_offsets bytes cluster entries m)
offsets_rise bytes cluster entries n m le = let e : m ≡ m - n + n = omega (arith, le) in rise_by bytes cluster entries n (m - n) m e

-- a refusal for want of room alone
pub full_by : (P : Error → Type 0) (A B : Type 0) (fault : OpenFault) → (A → B) → by_fault (λ e. ⊥) A fault → by_fault P B fault
full_by P A B (O.Driver e) f h = absurd h
full_by P A B O.TablesTooLarge f h = f h

module _ (bytes : List ℕ) (cluster : ℕ) (entries : List ℕ) (i : ℕ) (says : L2Table) (is : says ≡ says_entry bytes cluster entries i) where
  offsets_step : (next : ℕ) → next ≡ suc i → table_offsets bytes cluster entries next ≡ with_table says (table_offsets bytes cluster entries i)
  unfolding table_offsets
  offsets_step next e = rw (e, is) refl

  -- one more L1 entry is counted
  pub account_step : (next : ℕ) (limit : Option ℕ) (l : Loaded) → next ≡ suc i → IsAccount (with_table says (table_offsets bytes cluster entries i)) limit cluster l
      → IsAccount (table_offsets bytes cluster entries next) limit cluster l
  account_step next limit l e a = rw (offsets_step next e) a

  -- a table that passes the limit is one of all
  beyond_all : (n : ℕ) (limit : Option ℕ) → suc i ≤ n → IsBeyond limit (cluster * length (with_table says (table_offsets bytes cluster entries i)))
      → IsBeyond limit (cluster * length (table_offsets bytes cluster entries n))
  beyond_all n limit le h =
      let x = offsets_rise bytes cluster entries (suc i) n le in
      let y : length (with_table says (table_offsets bytes cluster entries i)) ≤ length (table_offsets bytes cluster entries n) = rw (← offsets_step (suc i) refl) x in
      beyond_rises limit (cluster * length (with_table says (table_offsets bytes cluster entries i))) (cluster * length (table_offsets bytes cluster entries n)) (mul-le-mul_left cluster y) h

  -- why what it names isn't held
  pub hold_refused : (f : Features) (n : ℕ) (limit : Option ℕ) (fault : OpenFault) → 8 * i + 8 ≤ length entries → suc i ≤ n
      → by_fault (λ e. (at : ℕ) × (says ≡ L2Table.Stored at) × allowed (read_reasons f at cluster) e) (IsBeyond limit (cluster * length (with_table says (table_offsets bytes cluster entries i)))) fault
      → by_fault (allowed (entries_reasons f bytes cluster entries)) (IsBeyond limit (cluster * length (table_offsets bytes cluster entries n))) fault
  hold_refused f n limit (O.Driver e) inside le h = table_refused f bytes cluster entries i (h.0) e inside (sym is ∙ h.1) (h.2)
  hold_refused f n limit O.TablesTooLarge inside le h = beyond_all n limit le h

  -- why it isn't counted
  pub count_refused : (n : ℕ) (limit : Option ℕ) (fault : OpenFault) → suc i ≤ n
      → by_fault (λ e. e ≡ Error.Memory) (IsBeyond limit (cluster * length (with_table says (table_offsets bytes cluster entries i)))) fault
      → by_fault (λ e. e ≡ Error.Memory) (IsBeyond limit (cluster * length (table_offsets bytes cluster entries n))) fault
  count_refused n limit (O.Driver e) le h = h
  count_refused n limit O.TablesTooLarge le h = beyond_all n limit le h

room_all : (limit : Option ℕ) (cluster : ℕ) → HasRoom limit (cluster * 0) limit
room_all None cluster = refl
room_all (Some most) cluster =
    let e : cluster * 0 ≡ 0 = omega arith in
    let f : most - cluster * 0 ≡ most = omega (arith, e) in (omega (arith, e), ap Some (sym f))

-- no table is loaded yet
pub account_none : (limit : Option ℕ) (cluster : ℕ) (l : Loaded) → l.tables.items ≡ [] → ((at : ℕ) → get nat_cmp l.numbers at ≡ None) → l.room ≡ limit → IsAccount [] limit cluster l
account_none limit cluster l empty none room = record {
  count = ap length empty;
  known = λ at. ap is_some (none at);
  room = rw room (room_all limit cluster);
}

pub account_first : (bytes : List ℕ) (cluster : ℕ) (entries : List ℕ) (limit : Option ℕ) (l : Loaded) → IsAccount [] limit cluster l → IsAccount (table_offsets bytes cluster entries 0) limit cluster l
unfolding table_offsets
account_first bytes cluster entries limit l a = a

-- how many bytes all tables have
module _ (f : Features) (bytes : List ℕ) (start count cluster : ℕ) (entries : List ℕ) (most room : Option ℕ) (left : HasRoom most (8 * count) room) (read : AreEntriesRead f bytes start count entries) where
  entries_are : length entries / 8 ≡ count
  entries_are = omega (arith, read.len)

  pub tables_fault : (fault : OpenFault) → by_fault (allowed (entries_reasons f bytes cluster entries)) (IsBeyond room (cluster * length (table_offsets bytes cluster entries (length entries / 8)))) fault
      → by_fault (allowed (tables_reasons f bytes start count cluster)) (NeedMore f bytes start count cluster most) fault
  tables_fault (O.Driver e) h = entries_refused f bytes start count cluster entries e read h
  tables_fault O.TablesTooLarge h =
      let x : IsBeyond room (cluster * length (table_offsets bytes cluster entries count)) = rw entries_are at h in
      inr (entries, read, beyond_more most room (8 * count) (cluster * length (table_offsets bytes cluster entries count)) left x)

  pub count_fault : (fault : OpenFault) → by_fault (λ e. e ≡ Error.Memory) (IsBeyond room (cluster * length (table_offsets bytes cluster entries (length entries / 8)))) fault
      → by_fault (allowed (tables_reasons f bytes start count cluster)) (NeedMore f bytes start count cluster most) fault
  count_fault (O.Driver e) h = rw h tt
  count_fault O.TablesTooLarge h =
      let x : IsBeyond room (cluster * length (table_offsets bytes cluster entries count)) = rw entries_are at h in
      inr (entries, read, beyond_more most room (8 * count) (cluster * length (table_offsets bytes cluster entries count)) left x)

  -- those that were counted
  pub read_within : IsWithin room (cluster * length (table_offsets bytes cluster entries (length entries / 8))) → AreReadWithin f bytes start count cluster most
  read_within h =
      let x : IsWithin room (cluster * length (table_offsets bytes cluster entries count)) = rw entries_are at h in
      (entries, read, within_more most room (8 * count) (cluster * length (table_offsets bytes cluster entries count)) left x)

  pub tables_within : (l : Loaded) (l1 : List HeldTable) → length l1 ≡ length entries / 8 → IsAccount (table_offsets bytes cluster entries (length entries / 8)) room cluster l
      → IsWithin most (8 * length l1 + cluster * length l.tables.items)
  tables_within l l1 all a =
      let x : HasRoom most (8 * count + cluster * length (table_offsets bytes cluster entries (length entries / 8))) l.room = room_more most room l.room (8 * count) (cluster * length (table_offsets bytes cluster entries (length entries / 8))) left a.room in
      let y : length l1 ≡ count = all ∙ entries_are in
      rw (y, a.count) (within_room most l.room (8 * count + cluster * length (table_offsets bytes cluster entries (length entries / 8))) x)

-- what holds of a result that went well
pub on_ok_more : {A E : Type 0} (r : Result A E) (P Q : Type 0) → OnOk r P → (P → Q) → OnOk r Q
on_ok_more (Ok x) P Q h f = f h
on_ok_more (Err e) P Q h f = h

-- and of one that went wrong, by what holds for all files of a kind
pub if_err_all : {A E : Type 0} (r : Result A E) (W : List ℕ → Type 0) (P : List ℕ → E → Type 0) (Q : E → Type 0) → ((bytes : List ℕ) → W bytes → IfErr r (P bytes))
    → ((e : E) → ((bytes : List ℕ) → W bytes → P bytes e) → Q e) → IfErr r Q
if_err_all (Ok x) W P Q h f = tt
if_err_all (Err e) W P Q h f = f e h

-- tables that are counted, by the L1 entries alone
module _ (file cluster most : ℕ) (entries : List ℕ) where
  abbrev pub PassesLimit : Type 0
  PassesLimit = (bytes : List ℕ) (count : ℕ) → file ≡ length bytes → length entries ≡ 8 * count → most < tables_length bytes cluster entries count

  pub entries_fault : (fault : OpenFault) → by_fault (λ e. ⊥) (IsBeyond (Some most) (length entries)) fault → by_fault (λ e. e ≡ Error.Memory) PassesLimit fault
  entries_fault fault = full_by (λ e. e ≡ Error.Memory) (IsBeyond (Some most) (length entries)) PassesLimit fault (λ past bytes count is whole. omega (arith, past, whole))

  module _ (room : Option ℕ) (left : HasRoom (Some most) (length entries) room) where
    pub counted_fault : (fault : OpenFault)
        → ((bytes : List ℕ) → file ≡ length bytes → by_fault (λ e. e ≡ Error.Memory) (IsBeyond room (cluster * length (table_offsets bytes cluster entries (length entries / 8)))) fault)
        → by_fault (λ e. e ≡ Error.Memory) PassesLimit fault
    counted_fault (O.Driver e) h = h (replicate {A = ℕ} file 0) (sym (length-replicate file 0))
    counted_fault O.TablesTooLarge h = λ bytes count is whole.
        let all : length entries / 8 ≡ count = omega (arith, whole) in
        let x : IsBeyond room (cluster * length (table_offsets bytes cluster entries count)) = rw all at (h bytes is) in
        let y : IsBeyond (Some most) (length entries + cluster * length (table_offsets bytes cluster entries count)) =
        beyond_more (Some most) room (length entries) (cluster * length (table_offsets bytes cluster entries count)) left x in
        omega (arith, y, whole)

    pub counted_within : (bytes : List ℕ) (count : ℕ) → length entries ≡ 8 * count
        → IsWithin room (cluster * length (table_offsets bytes cluster entries (length entries / 8))) → tables_length bytes cluster entries count ≤ most
    counted_within bytes count whole h =
        let all : length entries / 8 ≡ count = omega (arith, whole) in
        let x : IsWithin room (cluster * length (table_offsets bytes cluster entries count)) = rw all at h in
        let y : IsWithin (Some most) (length entries + cluster * length (table_offsets bytes cluster entries count)) =
        within_more (Some most) room (length entries) (cluster * length (table_offsets bytes cluster entries count)) left x in
        omega (arith, y, whole)
