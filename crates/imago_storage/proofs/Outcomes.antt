-- SPDX-License-Identifier: MIT
use Rattle.std.proofs.Common.{◌≡◌, ℕ, ◌<◌, ◌≤◌, ◌⊎◌, List, length, arith, inl, inr, ap, refl, ◌∙◌, Bool, IsTrue, Result, Ok, Err, OnOk, OnErr}
use Rattle.imago_storage.specs.Bytes.{OldOrNew, WriteOutcome}
use Rattle.imago_storage.specs.Calls.{ShowsNoChange}
use Rattle.imago_storage.specs.Faults.{CountsFaults}
use Rattle.imago_storage.specs.Features.{Features, MemoryUse, Never, ForGrowth, Any, MayRunOut, RequestMayRunOut, ZeroesMayRunOut}
use Rattle.imago_storage.specs.declared.error.Error.{Error}
use Rattle.imago_storage.specs.declared.error.Error.TheVariants.{WrapAround, Unsupported, Memory}
use Rattle.imago_storage.proofs.Splices.{OldOrNew_more}

pub OnErr_map : {T P Q : Type 0} (r : Result T Error) → (P → Q) → OnErr r P → OnErr r Q
OnErr_map (Ok x) f p = tt
OnErr_map (Err e) f p = f p

pub OnOk_map : {T P Q : Type 0} (r : Result T Error) → (P → Q) → OnOk r P → OnOk r Q
OnOk_map (Ok x) f p = f p
OnOk_map (Err e) f p = tt

-- a refusal that changed nothing
pub WriteOutcome_unchanged : {U : Type 0} (keeps : Bool) (old target : List ℕ) (q : Result U Error) (e : Error) → q ≡ Err e
    → length old ≤ length target → WriteOutcome keeps old target old q
WriteOutcome_unchanged keeps old target q e is le = rw is (record {
  done = λ _. tt;
  len = tt;
  refused = λ _. record { each = λ p. inl refl; no_shorter = omega arith; no_longer = le };
  no_shorter = omega arith;
  no_longer = le;
})

-- a write that is made as a whole or not at all
pub WriteOutcome_whole : {T : Type 0} (keeps : Bool) (old target now : List ℕ) (r : Result T Error) → OnOk r (now ≡ target) → OnErr r (now ≡ old)
    → length old ≤ length target → WriteOutcome keeps old target now r
WriteOutcome_whole keeps old target now (Ok x) made kept le = rw made (record { done = λ _. refl; len = refl; refused = λ _. tt; no_shorter = le; no_longer = omega arith })
WriteOutcome_whole keeps old target now (Err e) made kept le = rw kept (WriteOutcome_unchanged keeps old target (Err e) e refl le)

-- towards another target of the same length, which is the same where data is kept
pub WriteOutcome_towards : {T : Type 0} (keeps : Bool) (old part target now : List ℕ) (r : Result T Error) → (IsTrue keeps → part ≡ target) → length part ≡ length target
    → WriteOutcome keeps old part now r → WriteOutcome keeps old target now r
WriteOutcome_towards keeps old part target now r same long w = record {
  done = λ k. OnOk_map r (λ d. d ∙ same k) (w.done k);
  len = OnOk_map r (λ d. d ∙ long) w.len;
  refused = λ k. let is : part ≡ target = same k in rw is at (w.refused k);
  no_shorter = w.no_shorter;
  no_longer = omega (arith, w.no_longer, long);
}

-- the same success, with another value
pub WriteOutcome_ok : {T U : Type 0} (keeps : Bool) (old target now : List ℕ) (r : Result T Error) (x : T) (y : U) → r ≡ Ok x
    → WriteOutcome keeps old target now r → WriteOutcome {T = U} keeps old target now (Ok y)
WriteOutcome_ok keeps old target now r x y was w = record {
  done = λ k. rw was at (w.done k);
  len = rw was at w.len;
  refused = λ _. tt;
  no_shorter = w.no_shorter;
  no_longer = w.no_longer;
}

-- a refusal towards a first part is one towards the whole
pub WriteOutcome_refused : {T U : Type 0} (keeps : Bool) (old part target now : List ℕ) (r : Result T Error) (d : Error) (q : Result U Error) (e : Error)
    → r ≡ Err d → q ≡ Err e → OldOrNew old target part → WriteOutcome keeps old part now r → WriteOutcome keeps old target now q
WriteOutcome_refused keeps old part target now r d q e was is first w = rw is (record {
  done = λ _. tt;
  len = tt;
  refused = λ k. let b : OldOrNew old part now = rw was at (w.refused k) in record {
    each = λ p. grind (arith, b.each p, first.each p);
    no_shorter = b.no_shorter;
    no_longer = omega (arith, b.no_longer, first.no_longer);
  };
  no_shorter = w.no_shorter;
  no_longer = omega (arith, w.no_longer, first.no_longer);
})

-- a first part that was written, and then a refusal that changed nothing
pub WriteOutcome_stopped : {U : Type 0} (keeps : Bool) (old part target now : List ℕ) (q : Result U Error) (e : Error) → q ≡ Err e
    → OldOrNew old target part → WriteOutcome {T = Unit {0}} keeps old part now (Ok tt) → WriteOutcome keeps old target now q
WriteOutcome_stopped keeps old part target now q e is first w = rw is (record {
  done = λ _. tt;
  len = tt;
  refused = λ k. let same : now ≡ part = w.done k in rw same first;
  no_shorter = w.no_shorter;
  no_longer = omega (arith, w.no_longer, first.no_longer);
})

-- A first part that was written, and then what the second did: both are one write.
pub WriteOutcome_then : {T U : Type 0} (keeps : Bool) (old part mid rest target now : List ℕ) (r : Result T Error) (x : T) (q : Result U Error)
    → WriteOutcome keeps old part mid r → r ≡ Ok x → WriteOutcome keeps mid rest now q → OldOrNew old target part
    → (mid ≡ part → rest ≡ target) → (length mid ≡ length part → length rest ≡ length target) → WriteOutcome keeps old target now q
WriteOutcome_then keeps old part mid rest target now r x q w was v first same wide =
    let size : length mid ≡ length part = rw was at w.len in
    let long : length rest ≡ length target = wide size in
    record {
      done = λ k. let made : mid ≡ part = rw was at (w.done k) in OnOk_map q (λ d. d ∙ same made) (v.done k);
      len = OnOk_map q (λ d. d ∙ long) v.len;
      refused = λ k. let made : mid ≡ part = rw was at (w.done k) in
          OnErr_map q (λ b. OldOrNew_more old target part target now first (rw (made, same made) at b) (λ p. inr refl) (omega arith)) (v.refused k);
      no_shorter = omega (arith, w.no_shorter, v.no_shorter);
      no_longer = omega (arith, v.no_longer, long);
    }

-- faults of one call, and of a next one
pub CountsFaults_then : {T U : Type 0} (reliable again : Bool) (a b c : ℕ) (r : Result T Error) (q : Result U Error) → again ≡ reliable
    → CountsFaults reliable a b r → CountsFaults again b c q → CountsFaults reliable a c q
CountsFaults_then reliable again a b c r q e h k = record {
  later = omega (arith, h.later, k.later);
  reliable = λ y. let z : IsTrue again = rw e y in k.reliable z ∙ h.reliable y;
  device = λ y. elim (k.device y) [ inl l ↦ inl (omega (arith, h.later, l)) | inr l ↦ inr l ];
}

-- a success, without its value
pub CountsFaults_ok : {T U : Type 0} (reliable : Bool) (a b : ℕ) (r : Result T Error) (y : U) → CountsFaults reliable a b r → CountsFaults {T = U} reliable a b (Ok y)
CountsFaults_ok reliable a b r y h = record { later = h.later; reliable = h.reliable; device = λ never. absurd (cc) }

-- what is passed on was refused
pub same_refusal : {T U : Type 0} (r : Result T Error) (q : Result U Error) (d e x : Error) → r ≡ Err d → q ≡ Err e → e ≡ d → q ≡ Err x → r ≡ Err x
same_refusal r q d e x was is same wraps = cc

pub not_refused : {T : Type 0} (r : Result T Error) (y : T) (e : Error) → r ≡ Ok y → ¬ (r ≡ Err e)
not_refused r y e was refused = cc

-- what wraps around is refused, so a success fits
pub fits_where_ok : {T : Type 0} (r : Result T Error) (W P : Type 0) → (W → r ≡ Err WrapAround) → ((¬ W) → P) → OnOk r P
fits_where_ok (Ok x) W P refused fits = fits (λ w. not_refused (Ok x) x WrapAround refl (refused w))
fits_where_ok (Err e) W P refused fits = tt

-- what is the same shows no change, also behind what showed none
pub shows_same : {S : Type 0} (features_of : S → Features) (bytes_of : S → List ℕ) (faults_of : S → ℕ) (old new : S) → new ≡ old → ShowsNoChange features_of bytes_of faults_of old new
shows_same features_of bytes_of faults_of old new same = record { bytes = ap bytes_of same; features = ap features_of same; faults = ap faults_of same }

pub shows_still : {S : Type 0} (features_of : S → Features) (bytes_of : S → List ℕ) (faults_of : S → ℕ) (old mid new : S)
    → ShowsNoChange features_of bytes_of faults_of old mid → new ≡ mid → ShowsNoChange features_of bytes_of faults_of old new
shows_still features_of bytes_of faults_of old mid new first same = record {
  bytes = ap bytes_of same ∙ first.bytes;
  features = ap features_of same ∙ first.features;
  faults = ap faults_of same ∙ first.faults;
}

-- what may run out of memory on a longer storage, for a nearer end, may do so on a shorter one for a farther end
pub MayRunOut_more : (m : MemoryUse) (len more end whole : ℕ) → len ≤ more → end ≤ whole → MayRunOut m more end → MayRunOut m len whole
MayRunOut_more Never len more end whole longer nearer may = may
MayRunOut_more ForGrowth len more end whole longer nearer may = (let less : more < end = may in omega (arith, longer, nearer, less))
MayRunOut_more Any len more end whole longer nearer may = tt

pub RequestMayRunOut_more : (f g : Features) (len more end whole : ℕ) → g ≡ f → len ≤ more → end ≤ whole → RequestMayRunOut g more end → RequestMayRunOut f len whole
RequestMayRunOut_more f g len more end whole same longer nearer may =
    let here : RequestMayRunOut f more end = rw same at may in
    elim here [ inl r ↦ inl (MayRunOut_more f.read_memory len more end whole longer nearer r) | inr w ↦ inr (MayRunOut_more f.write_memory len more end whole longer nearer w) ]

pub ZeroesMayRunOut_more : (f : Features) (len more end whole : ℕ) → len ≤ more → end ≤ whole → ZeroesMayRunOut f more end → ZeroesMayRunOut f len whole
ZeroesMayRunOut_more f len more end whole longer nearer may =
    elim may [ inl r ↦ inl (RequestMayRunOut_more f f len more end whole refl longer nearer r) | inr z ↦ inr (MayRunOut_more f.zero_memory len more end whole longer nearer z) ]

-- what is refused as unsupported or for memory is refused for nothing else, and is no success
pub not_wrapped : {T : Type 0} (r : Result T Error) → (r ≡ Err Unsupported) ⊎ (r ≡ Err Memory) → r ≡ Err WrapAround → ⊥
not_wrapped r which wraps = elim which [ inl u ↦ (let z : ⊥ = cc in z) | inr m ↦ (let z : ⊥ = cc in z) ]

pub not_done : {T : Type 0} (r : Result T Error) (x : T) → r ≡ Ok x → (r ≡ Err Unsupported) ⊎ (r ≡ Err Memory) → ⊥
not_done r x was which = elim which [ inl u ↦ not_refused r x Unsupported was u | inr m ↦ not_refused r x Memory was m ]
