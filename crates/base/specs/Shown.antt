-- What is printed of a refusal, a fault and an entry.
use Rattle.std.specs.Prelude.{ℕ, List, ◌++◌, codes}
use Rattle.std.specs.Fmt.{decimal}
use Rattle.base.specs.declared.book.Entry.{Entry}
use Rattle.base.specs.declared.fault.Fault.{Fault}
use Rattle.base.specs.declared.refusal.Refusal.{Refusal}
use Rattle.base.specs.declared.refusal.Refusal.TheVariants.{TableFull, UnknownMark, WrongThreshold, TooManyFaulty, TooFewForPolicy, OutOfRange, WrongLength, NoStation, FaultyStation, AtWork, IntakeUsedUp, UnlawfulBatch, PoolFull, Idle, NoFrame, Malformed, EarlierBatch, LaterBatch, SenderTag, VoteHeld, PairTag, WronglySent, NumberPassed, NumberAhead, NotMember, LastNumber, Forged, BadLine, NotBooked, ShortBuffer}
use Rattle.base.specs.Refusals.{layer_number, number_of}

abbrev pub refusal_text : Refusal → List ℕ
refusal_text TableFull = codes "sixteen stations stand already"
refusal_text UnknownMark = codes "a mark is 0 or 1"
refusal_text WrongThreshold = codes "t is 1 to 7 and n at least 2t + 1"
refusal_text TooManyFaulty = codes "more than t stations are faulty"
refusal_text TooFewForPolicy = codes "too few stations for this policy"
refusal_text OutOfRange = codes "policy and table differ, or batches or slots out of range"
refusal_text WrongLength = codes "a buffer has the wrong length"
refusal_text NoStation = codes "no such station"
refusal_text FaultyStation = codes "the station is faulty"
refusal_text AtWork = codes "the station is at work"
refusal_text IntakeUsedUp = codes "the intake is used up"
refusal_text UnlawfulBatch = codes "the batch is unlawful"
refusal_text PoolFull = codes "fewer than three free slots"
refusal_text Idle = codes "the station is idle"
refusal_text NoFrame = codes "no such frame"
refusal_text Malformed = codes "the frame is malformed"
refusal_text EarlierBatch = codes "the frame is of an earlier batch"
refusal_text LaterBatch = codes "the frame is of a later batch"
refusal_text SenderTag = codes "the sender's tag is wrong"
refusal_text VoteHeld = codes "a vote of the sender is held already"
refusal_text PairTag = codes "a pair is wrong"
refusal_text WronglySent = codes "not the sender's to send"
refusal_text NumberPassed = codes "the committee number is passed"
refusal_text NumberAhead = codes "the committee number is too far ahead"
refusal_text NotMember = codes "the station is not a member"
refusal_text LastNumber = codes "the last committee number is reached"
refusal_text Forged = codes "forged"
refusal_text BadLine = codes "a bad line"
refusal_text NotBooked = codes "the entry is not booked"
refusal_text ShortBuffer = codes "the buffer is too short"

-- its number, layer and place, and words for people
abbrev pub fault_text : Fault → List ℕ
fault_text x = codes "refused " ++ decimal (number_of x.refusal) ++ codes " layer " ++ decimal (layer_number x.layer) ++ codes " place " ++ decimal x.place ++ codes " (" ++ refusal_text x.refusal ++ codes ")"

abbrev pub entry_text : Entry → List ℕ
entry_text e = decimal e.grower ++ codes " " ++ decimal e.amount ++ codes " " ++ decimal e.carry ++ codes " " ++ decimal e.figure
