-- SPDX-License-Identifier: MIT
use Rattle.std.proofs.Common.{◌≡◌, ℕ, ◌+◌, ◌-◌, ◌*◌, ◌/◌, ◌%◌, ◌<◌, ◌≤◌, List, [], ◌∷◌, length, take, drop, arith, refl, sym, ap, ◌∙◌, Result, Ok, Err, OnOk, IsErrAnd, IsTrue}
use Rattle.std.proofs.lemmas.List.{take_all, drop_all, length-take-le, length-drop}
use Rattle.std.proofs.lemmas.Result.{err_from_is_err_and}
use Rattle.std.proofs.Math.Nat.{mod_self, mod-eq_of_lt, div-add-mod'}
use Rattle.imago_storage.specs.declared.error.Error.{Error}
use Rattle.imago_storage.specs.Bytes.{splice, WriteOutcome, IsReadAt}
use Rattle.imago_storage.specs.Blocks.{IsInParts}
use Rattle.imago_storage.specs.Padding.{IsPaddedRequest}
use Rattle.imago_storage.specs.Features.{Features, IsAlignedRequest, len_align}
use Rattle.imago_storage.proofs.Blocks.{part_facts}
use Rattle.imago_storage.specs.Maintenance.{Maintenance, IsNothing}
use Rattle.imago_storage.specs.Steps.{WriteStep, Blocks, PartOf, blocks_step, part_step, steps_of_blocks, up_to_block, steps_from, write_steps, IsPureWrite, IsBlockRead, IsUpdated, IsStep, IsMadeInSteps}

-- Which steps there are.

pub blocks_step_some : (at : ℕ) (source : List ℕ) → 0 < length source → blocks_step at source ≡ Blocks at source ∷ []
blocks_step_some at [] some = absurd (omega (arith, some))
blocks_step_some at (b ∷ more) some = refl

pub part_step_some : (start head : ℕ) (source : List ℕ) → 0 < length source → part_step start head source ≡ PartOf start head source ∷ []
part_step_some start head [] some = absurd (omega (arith, some))
part_step_some start head (b ∷ more) some = refl

-- less than a block: a part of it
pub only_part : (block start : ℕ) (source : List ℕ) (whole : ℕ) → whole ≡ length source / block * block → whole ≡ 0 → 0 < length source
    → steps_of_blocks block start source ≡ PartOf start 0 source ∷ []
only_part block start source whole is none some =
    let zero : length source / block * block ≡ 0 = sym is ∙ none in
    let at : start + 0 ≡ start = omega arith in
    rw (zero, at) (part_step_some start 0 source some)

-- blocks, and a part behind them
pub blocks_and_part : (block start : ℕ) (source : List ℕ) (whole : ℕ) → whole ≡ length source / block * block → 0 < whole → whole < length source
    → steps_of_blocks block start source ≡ Blocks start (take whole source) ∷ PartOf (start + whole) 0 (drop whole source) ∷ []
blocks_and_part block start source whole is some rest =
    let l : length (take whole source) ≡ whole = length-take-le whole source (omega arith) in
    let d : length (drop whole source) ≡ length source - whole = length-drop whole source in
    rw (← is) (rw (blocks_step_some start (take whole source) (omega (arith, l, some)), part_step_some (start + whole) 0 (drop whole source) (omega (arith, d, rest))) refl)

-- blocks alone
pub only_blocks : (block start : ℕ) (source : List ℕ) (whole : ℕ) → whole ≡ length source / block * block → whole ≡ length source → 0 < length source
    → steps_of_blocks block start source ≡ Blocks start source ∷ []
only_blocks block start source whole is all some =
    let t : take whole source ≡ source = take_all whole source (omega (arith, all)) in
    let d : drop whole source ≡ [] = drop_all whole source (omega (arith, all)) in
    rw (← is) (rw (t, d) (rw (blocks_step_some start source some) refl))

-- no bytes, no step
pub no_blocks : (block start : ℕ) (source : List ℕ) → source ≡ [] → steps_of_blocks block start source ≡ []
no_blocks block start source none =
    let short : length source ≤ length source / block * block = omega (arith, ap length none) in
    let t : take (length source / block * block) source ≡ [] = take_all (length source / block * block) source short ∙ none in
    let d : drop (length source / block * block) source ≡ [] = drop_all (length source / block * block) source short in
    rw (t, d) refl

pub up_to_none : (block head : ℕ) → head ≡ 0 → up_to_block block head ≡ 0
up_to_none block head none = let same : block - head ≡ block = omega (arith, none) in rw same (mod_self block)

pub up_to_some : (block head : ℕ) → 0 < head → head ≤ block → up_to_block block head ≡ block - head
up_to_some block head some fits = mod-eq_of_lt (omega (arith, some, fits))

-- from a block's start on
pub no_head : (block head at : ℕ) (source : List ℕ) → head ≡ 0 → steps_from block head at source ≡ steps_of_blocks block at source
no_head block head at source none =
    let at0 : at + 0 ≡ at = omega arith in
    rw (up_to_none block head none) (rw at0 refl)

-- within one block
pub within_block : (block head at start : ℕ) (source : List ℕ) → at - head ≡ start → 0 < head → head ≤ block → 0 < length source → length source ≤ block - head
    → steps_from block head at source ≡ PartOf start head source ∷ []
within_block block head at start source from some fits any short =
    let t : take (block - head) source ≡ source = take_all (block - head) source short in
    let d : drop (block - head) source ≡ [] = drop_all (block - head) source short in
    let n : steps_of_blocks block (at + (block - head)) (drop (block - head) source) ≡ [] = no_blocks block (at + (block - head)) (drop (block - head) source) d in
    rw (up_to_some block head some fits) (rw n (rw (t, from) (rw (part_step_some start head source any) refl)))

-- a part of a block, and then from the next one's start on
pub part_and_blocks : (block head at start : ℕ) (source : List ℕ) → at - head ≡ start → 0 < head → head ≤ block → at + (block - head) ≡ start + block → 0 < block - head → block - head < length source
    → steps_from block head at source ≡ PartOf start head (take (block - head) source) ∷ steps_of_blocks block (start + block) (drop (block - head) source)
part_and_blocks block head at start source from some fits next any long =
    let l : length (take (block - head) source) ≡ block - head = length-take-le (block - head) source (omega (arith, long)) in
    rw (up_to_some block head some fits) (rw (from, next) (rw (part_step_some start head (take (block - head) source) (omega (arith, l, any))) refl))

len_ge : (f : Features) → f.req_align ≤ len_align f
len_ge f = omega arith

-- a first block isn't full: its head is less than a request alignment
pub part_left : {f : Features} {a at n start len : ℕ} → IsInParts f a at n start len → 0 < a - (at - start)
part_left {f} {a} {at} {n} {start} {len} r =
    let q = r.padded in
    let wide : f.req_align ≤ a = rw r.is_block (len_ge f) in
    omega (arith, q.near, q.before, wide)

-- How they are made.

-- a pure write, of the clauses of the call
pub pure_write : {S : Type 0} (features_of : S → Features) (bytes_of : S → List ℕ) (calls : Maintenance S) {at : ℕ} {source : List ℕ} {old new : S} {result : Result (Unit {0}) Error}
    → calls.written at source old new result → WriteOutcome (features_of old).keeps_data (bytes_of old) (splice (bytes_of old) at source) (bytes_of new) result → features_of new ≡ features_of old
    → IsPureWrite features_of bytes_of calls at source old new result
pure_write features_of bytes_of calls made bytes features = record { made = made; bytes = bytes; features = features }

-- a counted read, of the clauses of the call
pub block_read : {S : Type 0} (features_of : S → Features) (bytes_of : S → List ℕ) (calls : Maintenance S) {start : ℕ} {buffer : List ℕ} {old new : S} {result : Result (Unit {0}) Error}
    → calls.counted start buffer old new result → (IsTrue (features_of old).tells_bytes → OnOk result (IsReadAt (bytes_of old) start buffer)) → bytes_of new ≡ bytes_of old → features_of new ≡ features_of old
    → IsBlockRead features_of bytes_of calls start buffer old new result
block_read features_of bytes_of calls made shows unchanged features = record { made = made; shows = shows; unchanged = unchanged; features = features }

module _ {S : Type 0} (features_of : S → Features) (bytes_of : S → List ℕ) (calls : Maintenance S) (block : ℕ) where
  -- a step behind which there is none
  pub last_step : (step : WriteStep) {old new : S} {result : Result (Unit {0}) Error} → IsStep features_of bytes_of calls block step old new result
      → IsMadeInSteps features_of bytes_of calls block (step ∷ []) old new result
  last_step step {new = new} {result = result} made = record { answer = result; between = new; made = made; refused = λ e is. (refl, is); behind = λ is. (refl, is) }

  -- a step that is refused
  pub refused_step : (step : WriteStep) (more : List WriteStep) {old new : S} {answer result : Result (Unit {0}) Error} {x : Error}
      → IsStep features_of bytes_of calls block step old new answer → answer ≡ Err x → result ≡ answer
      → IsMadeInSteps features_of bytes_of calls block (step ∷ more) old new result
  refused_step step more {new = new} {answer = answer} made was same =
      record { answer = answer; between = new; made = made; refused = λ e is. (refl, same ∙ is); behind = λ is. absurd (cc) }

  -- a step, and those behind it
  pub step_then : (step : WriteStep) (more : List WriteStep) {old : S} (mid new : S) {answer : Result (Unit {0}) Error} (result : Result (Unit {0}) Error) {x : Unit {0}}
      → IsStep features_of bytes_of calls block step old mid answer → answer ≡ Ok x → IsMadeInSteps features_of bytes_of calls block more mid new result
      → IsMadeInSteps features_of bytes_of calls block (step ∷ more) old new result
  step_then step more mid new {answer = answer} result made was rest =
      record { answer = answer; between = mid; made = made; refused = λ e is. absurd (cc); behind = λ is. rest }

  -- a block that isn't read is not written
  pub read_refused : (start head : ℕ) (source buffer : List ℕ) {old new : S} {answer result : Result (Unit {0}) Error} {x : Error}
      → length buffer ≡ block → IsBlockRead features_of bytes_of calls start buffer old new answer → answer ≡ Err x → result ≡ answer
      → IsUpdated features_of bytes_of calls block start head source old new result
  read_refused start head source buffer {new = new} {answer = answer} long read was same = record {
    buffer = buffer;
    is_block = long;
    made = record { answer = answer; between = new; made = read; refused = λ e is. (refl, same ∙ is); behind = λ is. absurd (cc) };
  }

  -- a block that is read, and written back
  pub read_then_written : (start head : ℕ) (source buffer : List ℕ) {old mid new : S} {answer result : Result (Unit {0}) Error} {x : Unit {0}}
      → length buffer ≡ block → IsBlockRead features_of bytes_of calls start buffer old mid answer → answer ≡ Ok x
      → IsPureWrite features_of bytes_of calls start (splice buffer head source) mid new result
      → IsUpdated features_of bytes_of calls block start head source old new result
  read_then_written start head source buffer {mid = mid} {answer = answer} long read was written = record {
    buffer = buffer;
    is_block = long;
    made = record { answer = answer; between = mid; made = read; refused = λ e is. absurd (cc); behind = λ is. written };
  }

  module _ (start : ℕ) (source : List ℕ) (whole : ℕ) (is : whole ≡ length source / block * block) where
    pub part_alone : {old new : S} {result : Result (Unit {0}) Error} → whole ≡ 0 → 0 < length source → IsUpdated features_of bytes_of calls block start 0 source old new result
        → IsMadeInSteps features_of bytes_of calls block (steps_of_blocks block start source) old new result
    part_alone none some made = rw (only_part block start source whole is none some) (last_step (PartOf start 0 source) made)

    pub blocks_alone : {old new : S} {result : Result (Unit {0}) Error} → whole ≡ length source → 0 < length source → IsPureWrite features_of bytes_of calls start source old new result
        → IsMadeInSteps features_of bytes_of calls block (steps_of_blocks block start source) old new result
    blocks_alone all some made = rw (only_blocks block start source whole is all some) (last_step (Blocks start source) made)

    pub blocks_refused : {old new : S} {answer result : Result (Unit {0}) Error} {x : Error} → 0 < whole → whole ≤ length source
        → IsPureWrite features_of bytes_of calls start (take whole source) old new answer → answer ≡ Err x → result ≡ answer
        → IsMadeInSteps features_of bytes_of calls block (steps_of_blocks block start source) old new result
    blocks_refused some fits made was same =
        let l : length (take whole source) ≡ whole = length-take-le whole source fits in
        rw (← is) (rw (blocks_step_some start (take whole source) (omega (arith, l, some)))
        (refused_step (Blocks start (take whole source)) (part_step (start + whole) 0 (drop whole source)) made was same))

    pub blocks_then_part : {old mid new : S} {answer result : Result (Unit {0}) Error} {x : Unit {0}} → 0 < whole → whole < length source
        → IsPureWrite features_of bytes_of calls start (take whole source) old mid answer → answer ≡ Ok x → IsUpdated features_of bytes_of calls block (start + whole) 0 (drop whole source) mid new result
        → IsMadeInSteps features_of bytes_of calls block (steps_of_blocks block start source) old new result
    blocks_then_part {mid = mid} {new = new} {result = result} some rest made was part = rw (blocks_and_part block start source whole is some rest)
        (step_then (Blocks start (take whole source)) (PartOf (start + whole) 0 (drop whole source) ∷ []) mid new result made was (last_step (PartOf (start + whole) 0 (drop whole source)) part))

  module _ {f : Features} {at start len : ℕ} (source : List ℕ) (p : IsInParts f block at (length source) start len) where
    pub within : {old new : S} {result : Result (Unit {0}) Error} → 0 < at - start → length source ≤ block - (at - start)
        → IsUpdated features_of bytes_of calls block start (at - start) source old new result
        → IsMadeInSteps features_of bytes_of calls block (steps_from block (at - start) at source) old new result
    within some short made =
        let b = part_facts p in
        let from : at - (at - start) ≡ start = omega (arith, b.from_start) in
        rw (within_block block (at - start) at start source from some b.in_block p.some short) (last_step (PartOf start (at - start) source) made)

    first_part : 0 < at - start → block - (at - start) < length source
        → steps_from block (at - start) at source ≡ PartOf start (at - start) (take (block - (at - start)) source) ∷ steps_of_blocks block (start + block) (drop (block - (at - start)) source)
    first_part some long =
        let b = part_facts p in
        let from : at - (at - start) ≡ start = omega (arith, b.from_start) in
        let next : at + (block - (at - start)) ≡ start + block = omega (arith, b.from_start, b.in_block) in
        part_and_blocks block (at - start) at start source from some b.in_block next (part_left p) long

    pub first_part_refused : {old new : S} {answer result : Result (Unit {0}) Error} {x : Error} → 0 < at - start → block - (at - start) < length source
        → IsUpdated features_of bytes_of calls block start (at - start) (take (block - (at - start)) source) old new answer → answer ≡ Err x → result ≡ answer
        → IsMadeInSteps features_of bytes_of calls block (steps_from block (at - start) at source) old new result
    first_part_refused some long made was same = rw (first_part some long)
        (refused_step (PartOf start (at - start) (take (block - (at - start)) source)) (steps_of_blocks block (start + block) (drop (block - (at - start)) source)) made was same)

    pub first_part_then : {old mid : S} (new : S) {answer : Result (Unit {0}) Error} (result : Result (Unit {0}) Error) {x : Unit {0}} → 0 < at - start → block - (at - start) < length source
        → IsUpdated features_of bytes_of calls block start (at - start) (take (block - (at - start)) source) old mid answer → answer ≡ Ok x
        → IsMadeInSteps features_of bytes_of calls block (steps_of_blocks block (start + block) (drop (block - (at - start)) source)) mid new result
        → IsMadeInSteps features_of bytes_of calls block (steps_from block (at - start) at source) old new result
    first_part_then {mid = mid} new result some long made was rest = rw (first_part some long)
        (step_then (PartOf start (at - start) (take (block - (at - start)) source)) (steps_of_blocks block (start + block) (drop (block - (at - start)) source)) mid new result made was rest)

  -- an aligned write is one step
  pub aligned_step : (f : Features) (at : ℕ) (source : List ℕ) {old new : S} {result : Result (Unit {0}) Error} → block ≡ len_align f → 0 < block → 0 < length source
      → IsAlignedRequest f at (length source) → IsPureWrite features_of bytes_of calls at source old new result
      → IsMadeInSteps features_of bytes_of calls block (steps_from block (at % f.req_align) at source) old new result
  aligned_step f at source same positive some aligned made =
      let whole : length source % block ≡ 0 = rw same aligned.whole in
      let all : length source ≡ length source / block * block = omega (arith, div-add-mod' (length source) block, whole) in
      rw (no_head block (at % f.req_align) at source aligned.start) (blocks_alone at source (length source) all refl some made)

-- the parts of a padded request are its steps
pub padded_steps : {S : Type 0} (features_of : S → Features) (bytes_of : S → List ℕ) (calls : Maintenance S) (f : Features) (at start len block : ℕ) (source : List ℕ) (old new : S) (result : Result (Unit {0}) Error)
    → block ≡ len_align f → IsPaddedRequest f at (length source) start len
    → IsMadeInSteps features_of bytes_of calls block (steps_from block (at - start) at source) old new result
    → IsMadeInSteps features_of bytes_of calls (len_align f) (write_steps f at source) old new result
padded_steps features_of bytes_of calls f at start len block source old new result same q made =
    let head : at - start ≡ at % f.req_align = omega (arith, q.is_start, q.before) in
    rw (same, head) at made

-- the same refusal, passed on
pub passed_on : (answer result : Result (Unit {0}) Error) (x : Error) → answer ≡ Err x → IsErrAnd result (λ e. e ≡ x) → result ≡ answer
passed_on answer result x was err =
    let p = err_from_is_err_and result err in
    p.1 ∙ ap Err p.2 ∙ sym was

nothing_of : (source : List ℕ) → length source ≡ 0 → source ≡ []
nothing_of [] none = refl
nothing_of (b ∷ more) none = absurd (omega (arith, none))

-- no bytes are no step
no_write_steps : (f : Features) (at : ℕ) (source : List ℕ) → source ≡ [] → write_steps f at source ≡ []
no_write_steps f at source none =
    let block = len_align f in
    let up = up_to_block block (at % f.req_align) in
    let short : length source ≤ up = omega (arith, ap length none) in
    let t : take up source ≡ [] = take_all up source short ∙ none in
    let d : drop up source ≡ [] = drop_all up source short in
    let n : steps_of_blocks block (at + up) (drop up source) ≡ [] = no_blocks block (at + up) (drop up source) d in
    rw n (rw t refl)

pub no_steps : {S : Type 0} (features_of : S → Features) (bytes_of : S → List ℕ) (calls : Maintenance S) (f : Features) (at : ℕ) (source : List ℕ) (old : S) → length source ≡ 0
    → IsMadeInSteps features_of bytes_of calls (len_align f) (write_steps f at source) old old (Ok tt)
no_steps features_of bytes_of calls f at source old none = rw (no_write_steps f at source (nothing_of source none)) (refl, refl)

pub nothing_written : {S : Type 0} (features_of : S → Features) (bytes_of : S → List ℕ) (calls : Maintenance S) (f : Features) (at : ℕ) (source : List ℕ) (old new : S) (result : Result (Unit {0}) Error) → source ≡ []
    → IsMadeInSteps features_of bytes_of calls (len_align f) (write_steps f at source) old new result → IsNothing old new result
nothing_written features_of bytes_of calls f at source old new result none made = rw (no_write_steps f at source none) at made
