-- The tags and the seats behind a frame, over the meaning of a seal and of a policy.
use Rattle.std.specs.Prelude.{◌≡◌, ℕ, ◌-◌, Bool, cond, List, [], ◌∷◌, ◌==◌, nat_eq}
use Rattle.std.specs.Fn.{FnReturnsAt}
use denote.Param.Members.{Shared}
use denote.Ref.{Bor}
use Rattle.frames.specs.declared.frame.Pair.{Pair}
use Rattle.frames.specs.declared.frame.Pairs.{Pairs}
use Rattle.frames.specs.declared.frame.Frame.{Frame}
use Rattle.frames.specs.Frames.{◌and◌}
use Rattle.frames.specs.Typed.{plain, pair_stated, holding}
use Rattle.evidence.specs.Issue.{right_tag}

-- the sender's tag is right
abbrev pub sender_tagged : (ℕ → List ℕ → ℕ) → Frame → Bool
sender_tagged tag f = f.tag == right_tag tag f

-- a pair's tag is right
abbrev pub pair_tagged : (ℕ → List ℕ → ℕ) → Frame → ℕ × ℕ → Bool
pair_tagged tag f p = p.1 == tag p.0 (pair_stated f p.0)

-- the sender of a reselect frame sits in the committee left and brings no pair, or only in the new one and brings one
abbrev pub rightly_by : (ℕ → ℕ → Bool) → Frame → Bool
rightly_by seats f = cond (seats (f.number - 1) f.sender) (f.pairs.count == 0) (seats f.number f.sender and nat_eq f.pairs.count 1)

-- a pair has the right tag of a member of the committee left
abbrev pub pair_left : (ℕ → List ℕ → ℕ) → (ℕ → ℕ → Bool) → Frame → ℕ × ℕ → Bool
pair_left tag seats f p = pair_tagged tag f p and seats (f.number - 1) p.0

-- what a member of the new committee alone shows: the sender of the frame taken with its tag, or that frame's own pairs
abbrev pub pairs_shown : Frame → Pairs
pairs_shown f = cond (f.pairs.count == 0) (holding 1 ((f.sender, f.tag) ∷ [])) f.pairs

-- a closure answers of every pair what the test says of it
abbrev pub Tests : {F : Type 0} → Shared F (Bor Pair × Unit {0}) Bool → F → (ℕ × ℕ → Bool) → Type 0
Tests g f good = (p : Pair) (r : Bool) → FnReturnsAt g f p r → r ≡ good (plain p)
