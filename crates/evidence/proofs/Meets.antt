-- The definitions that the contracts here cite are those of the protocol's tests and steps.
use Rattle.std.proofs.Common.{◌≡◌, ℕ, List, length, take, refl}
use Rattle.base.specs.declared.book.Entry.{Entry}
use Rattle.frames.specs.declared.frame.Frame.{Frame}
use Rattle.frames.specs.declared.slot.Slot.{Slot}
use Rattle.frames.specs.Slots.{enter, slot_of}
use Rattle.frames.specs.Typed.{stated}
use Rattle.protocol.specs.declared.station.Station.{Station}
use Rattle.protocol.specs.Law.{Terms}
use Rattle.protocol.specs.Steps.{same_entry, support}
use Rattle.protocol.specs.Desk.{own_vote, sent}
use Rattle.protocol.specs.Ready.{pairs_in, sender_right, pair_right, rightly_from, pair_leaves, forged_at}
use Rattle.evidence.specs.Votes.{equal_entries, support_of, backs_entry, entry_held}
use Rattle.evidence.specs.Issue.{right_tag, bytes_under}
use Rattle.evidence.specs.Tags.{sender_tagged, pair_tagged, rightly_by, pair_left}
use Rattle.evidence.specs.Forgery.{forged_sender_in, forged_in}
use Rattle.evidence.proofs.Backers.{support-backers}

module _ (d : Terms) where
  pub sender_right_is : sender_right d ≡ sender_tagged d.tag
  unfolding right_tag
  sender_right_is = refl

  pub pair_right_is : pair_right d ≡ pair_tagged d.tag
  pair_right_is = refl

  pub rightly_from_is : rightly_from d ≡ rightly_by d.seats
  rightly_from_is = refl

  pub pair_leaves_is : pair_leaves d ≡ pair_left d.tag d.seats
  pair_leaves_is = refl

  pub forged_at_is : forged_at d ≡ forged_in d.faulty d.tag
  unfolding forged_at forged_sender_in
  forged_at_is = refl

  -- a frame of station i that is issued is a frame that it sends
  pub sent_is : (f : Frame) (pool : List Slot) → sent d f.sender (stated f) (pairs_in f) pool ≡ enter (slot_of 0 (bytes_under (right_tag d.tag f) f)) pool
  unfolding sent right_tag bytes_under
  sent_is f pool = refl

  -- the number of stations that back an entry
  pub support_is : (e : Entry) (s : Station) → support_of backs_entry e (take d.n s.votes) ≡ length (support d e s)
  support_is e s = support-backers e 0 (take d.n s.votes)

pub same_entry_is : (a b : Entry) → same_entry a b ≡ equal_entries a b
unfolding same_entry
same_entry_is a b = refl

pub own_vote_is : (i : ℕ) (s : Station) → own_vote i s ≡ entry_held i s.votes
own_vote_is i s = refl
