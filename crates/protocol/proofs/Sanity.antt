-- Refusals change nothing, an Inject adds one frame, the clerk books every lawful batch, and the law
-- excludes halls that book, certify or work otherwise.
use Rattle.std.proofs.Common.{◌≡◌, ℕ, ◌-◌, ◌*◌, ◌≤◌, true, false, List, [], ◌∷◌, length, get_or, drop, Ok, Err, sym, refl, ap, ◌∙◌, subst, arith}
use Rattle.std.specs.List.{AllByRecursion}
use Rattle.std.proofs.lemmas.Bool.{both_ways}
use Rattle.std.proofs.lemmas.List.{get_or-set_same, get_or-take, get_or-drop, get_or_default}
use Rattle.base.specs.declared.book.Batch.{Batch}
use Rattle.base.specs.declared.book.Entry.{Entry}
use Rattle.base.specs.declared.fault.Fault.{Fault}
use Rattle.frames.specs.declared.slot.Slot.{Slot}
use Rattle.frames.specs.Slots.{framed, no_slot, frame_at, enter, slot_of}
use Rattle.frames.specs.Frames.{unhex}
use Rattle.protocol.specs.Law.{Terms, Call, History, Marks, opening, delivery, ringing, injection, booked_by, committee_of, clerk, Law, works}
use Rattle.protocol.specs.Steps.{World, Acted, act, whole_call, no_entry}
use Rattle.protocol.specs.Claims.{AddsOne, Excluded, RefusalsStay, InjectsOne, LawExcludes}
use Rattle.frames.proofs.Slots.{Place, place_of, framed_slot, frame_empty}
use Rattle.frames.proofs.Codec.{line_bytes}
use Rattle.protocol.proofs.Clerk.{clerk-lawful}
use Rattle.protocol.proofs.Rules.{open_rule, ring_rule, deliver_rule, inject_rule, proposal_rule, whole-rule}

module _ (d : Terms) where
  module _ (intake : List Batch) where
    abbrev Stays : World → Acted → Type 0
    Stays w r = (x : Fault) → r.1 ≡ Err x → r.0 ≡ w

    accepted_stays : (w v : World) (m : Marks) → Stays w (v, Ok m)
    accepted_stays w v m x e = absurd (let z : ◌≡◌ {A = ℕ} 0 1 = cc in omega arith)

    act_stays : (c : Call) (w : World) → Stays w (act d intake c w)
    act_stays (opening i) w = open_rule d (Stays w) intake i w (λ y x e. refl) (λ _ _. accepted_stays w _ _) (λ _ _. accepted_stays w _ _)
    act_stays (delivery i f) w =
        deliver_rule d (Stays w) i f w (λ y x e. refl)
        (λ _ _ _. proposal_rule d (Stays w) i _ _ (λ _. accepted_stays w _ _) (λ _ _. accepted_stays w _ _) (λ _ _. accepted_stays w _ _))
        (λ _ _ _. accepted_stays w _ _) (λ _ _. accepted_stays w _ _)
    act_stays (ringing i) w = ring_rule d (Stays w) i w (λ y x e. refl) (λ _. accepted_stays w _ _)
    act_stays (injection l) w = inject_rule d (Stays w) l w (λ y x e. refl) (λ _ _ _. accepted_stays w _ _)

    refused_stays : (c : Call) (w : World) → Stays w (whole_call d intake c w)
    refused_stays c w = whole-rule d (Stays w) intake c w (λ y x e. refl) (λ _ _. act_stays c w)

    abbrev Injected : List ℕ → World → Acted → Type 0
    Injected l w r = (m : Marks) → r.1 ≡ Ok m → AddsOne l w r.0 × (m ≡ (false, false, false))

    refused_injects : (l : List ℕ) (w v : World) (x : Fault) → Injected l w (v, Err x)
    refused_injects l w v x m e = absurd (let z : ◌≡◌ {A = ℕ} 0 1 = cc in omega arith)

    inject_adds : (l : List ℕ) (w : World) → Injected l w (whole_call d intake (injection l) w)
    inject_adds l w =
        whole-rule d (Injected l w) intake (injection l) w (refused_injects l w w)
        λ _ _. inject_rule d (Injected l w) l w (refused_injects l w w)
        (λ line room _ m e. let b = line_bytes l line in (go b.2 (place_of (slot_of 1 (unhex l)) b.1 w.pool (omega arith)), sym (cc e)))
      where
        go : length (unhex l) ≤ 104 → Place (slot_of 1 (unhex l)) w.pool
            → AddsOne l w (record { stations = w.stations; pool = enter (slot_of 1 (unhex l)) w.pool; books = w.books })
        go short p = record {
          place = p.place;
          before = frame_empty w.pool p.place p.empty;
          after =
              ap (λ (q : List Slot). frame_at q p.place) p.entered
              ∙ ap framed (get_or-set_same w.pool p.place (slot_of 1 (unhex l)) no_slot p.inside) ∙ framed_slot 1 (unhex l) short;
          pool = p.entered;
          room = p.freed;
          stations = refl;
          books = refl;
        }

  clerk_long : (carry : ℕ) (bs : List Batch) → AllByRecursion (λ b. d.lawful b ≡ true) bs → length (clerk d carry bs) ≡ length bs
  clerk_long carry [] h = refl
  clerk_long carry (b ∷ bs) h = ap length (clerk-lawful d carry b bs h.0) ∙ omega (arith, clerk_long (works d carry b).carry bs h.1)

  excluded : (intake : List Batch) (books : List Entry) (h : History) → Law d intake books h → Excluded d intake books h
  excluded intake books h law = record {
    other_booking = λ i k c l differs.
        let n : ℕ = booked_by i h in
        differs (sym (get_or-drop (i * d.batches) books k no_entry) ∙ sym (get_or-take n (drop (i * d.batches) books) k no_entry l)
        ∙ ap (λ (es : List Entry). get_or es k no_entry) (law.one_book i c).1 ∙ get_or-take n (clerk d 0 intake) k no_entry l);
    booking_beyond = λ i c l. omega (arith, (law.one_book i c).0);
    two_entries = λ f g q r b e e' ps ps' c c' differs.
        let x = law.true_certificates f q b e ps c in
        let y = law.true_certificates g r b e' ps' c' in
        let w = c.within in
        differs (sym x.1 ∙ get_or_default (clerk d 0 intake) (b - 1) e e' (omega (arith, x.0)) ∙ y.1);
    unseated_work = λ e before is i c m s.
        both_ways _ s (subst (λ (g : History). d.seats (committee_of i g) i ≡ true) (sym is) (law.lazy [] e before is i c m).member);
  }

pub refusals_stay : RefusalsStay
refusals_stay d intake c w = refused_stays d intake c w

pub injects_one : InjectsOne
injects_one d intake l w = inject_adds d intake l w

pub law_excludes : LawExcludes
law_excludes d intake = (excluded d intake, clerk_long d 0 intake)
