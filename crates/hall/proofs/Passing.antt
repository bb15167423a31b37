-- Two tests, one after the other, and what follows them.
use Rattle.std.proofs.Common.{◌≡◌, ℕ, Bool, true, false, Ok, Err, Result, sym, refl, ap, arith}
use Rattle.base.specs.declared.fault.Fault.{Fault}
use Rattle.base.specs.declared.refusal.Refusal.{Refusal}
use Rattle.protocol.specs.Steps.{World, Acted, passing, test, refused}
use Rattle.protocol.proofs.Passed.{passing_ok}

module _ {A : Type 0} (x y : Refusal) (u : A) where
  no_refusal : (e : Fault) → ◌≡◌ {A = Result A Fault} (Err e) (Ok u) → ⊥
  no_refusal e p = let z : ◌≡◌ {A = ℕ} 0 1 = cc in omega arith

  same : (e f : Fault) → ◌≡◌ {A = Result A Fault} (Err e) (Err f) → e ≡ f
  same e f p = cc

  -- both pass
  pub both_hold : (a b : Bool) → Ok u ≡ passing a x (passing b y (Ok u)) → (a ≡ true) × (b ≡ true)
  both_hold a b p =
      let first = passing_ok a x (passing b y (Ok u)) u (sym p) in
      (first.0, (passing_ok b y (Ok u) u first.1).0)

  pub both_pass : {B : Type 0} (a b : Bool) (go : Result B Fault) → Ok u ≡ passing a x (passing b y (Ok u)) → passing a x (passing b y go) ≡ go
  both_pass a b go p = let h = both_hold a b p in rw (h.0, h.1) refl

  -- one of them fails, whatever follows
  pub one_fails : {B : Type 0} (a b : Bool) (e : Fault) (go : Result B Fault)
      → Err e ≡ passing a x (passing b y (Ok u)) → Err e ≡ passing a x (passing b y go)
  one_fails true true e go p = absurd (no_refusal e p)
  one_fails true false e go p = ap Err (same e _ p)
  one_fails false b e go p = ap Err (same e _ p)

  pub one_refuses : (w : World) (a b : Bool) (e : Fault) (go : Acted)
      → Err e ≡ passing a x (passing b y (Ok u)) → ◌≡◌ {A = Acted} (w, Err e) (test a (refused w x 0) (test b (refused w y 0) go))
  one_refuses w true true e go p = absurd (no_refusal e p)
  one_refuses w true false e go p = ap (λ (f : Fault). (w, Err f)) (same e _ p)
  one_refuses w false b e go p = ap (λ (f : Fault). (w, Err f)) (same e _ p)
