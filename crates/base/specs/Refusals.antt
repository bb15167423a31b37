-- Refusals by their numbers, and the layer and place that a fault shows.
use Rattle.std.specs.Prelude.{ℕ}
use Rattle.base.specs.declared.fault.Layer.{Layer}
use Rattle.base.specs.declared.fault.Layer.TheVariants.{Line, Frame, Seal, Hall}
use Rattle.base.specs.declared.refusal.Refusal.{Refusal}
use Rattle.base.specs.declared.refusal.Refusal.TheVariants.{TableFull, UnknownMark, WrongThreshold, TooManyFaulty, TooFewForPolicy, OutOfRange, WrongLength, NoStation, FaultyStation, AtWork, IntakeUsedUp, UnlawfulBatch, PoolFull, Idle, NoFrame, Malformed, EarlierBatch, LaterBatch, SenderTag, VoteHeld, PairTag, WronglySent, NumberPassed, NumberAhead, NotMember, LastNumber, Forged, BadLine, NotBooked, ShortBuffer}
use Rattle.base.specs.declared.fault.Fault.{Fault}

abbrev pub layer_number : Layer → ℕ
layer_number Line = 1
layer_number Frame = 2
layer_number Seal = 3
layer_number Hall = 4

abbrev pub number_of : Refusal → ℕ
number_of TableFull = 1
number_of UnknownMark = 2
number_of WrongThreshold = 3
number_of TooManyFaulty = 4
number_of TooFewForPolicy = 5
number_of OutOfRange = 6
number_of WrongLength = 7
number_of NoStation = 8
number_of FaultyStation = 9
number_of AtWork = 10
number_of IntakeUsedUp = 11
number_of UnlawfulBatch = 12
number_of PoolFull = 13
number_of Idle = 14
number_of NoFrame = 15
number_of Malformed = 16
number_of EarlierBatch = 17
number_of LaterBatch = 18
number_of SenderTag = 19
number_of VoteHeld = 20
number_of PairTag = 21
number_of WronglySent = 22
number_of NumberPassed = 23
number_of NumberAhead = 24
number_of NotMember = 25
number_of LastNumber = 26
number_of Forged = 27
number_of BadLine = 28
number_of NotBooked = 29
number_of ShortBuffer = 30

-- a line is refused in layer 1, a frame's form in layer 2, a tag in layer 3, all else in layer 4
abbrev pub layer_of : Refusal → Layer
layer_of TableFull = Hall
layer_of UnknownMark = Hall
layer_of WrongThreshold = Hall
layer_of TooManyFaulty = Hall
layer_of TooFewForPolicy = Hall
layer_of OutOfRange = Hall
layer_of WrongLength = Hall
layer_of NoStation = Hall
layer_of FaultyStation = Hall
layer_of AtWork = Hall
layer_of IntakeUsedUp = Hall
layer_of UnlawfulBatch = Hall
layer_of PoolFull = Hall
layer_of Idle = Hall
layer_of NoFrame = Hall
layer_of Malformed = Frame
layer_of EarlierBatch = Hall
layer_of LaterBatch = Hall
layer_of SenderTag = Seal
layer_of VoteHeld = Hall
layer_of PairTag = Seal
layer_of WronglySent = Hall
layer_of NumberPassed = Hall
layer_of NumberAhead = Hall
layer_of NotMember = Hall
layer_of LastNumber = Hall
layer_of Forged = Seal
layer_of BadLine = Line
layer_of NotBooked = Hall
layer_of ShortBuffer = Hall

abbrev pub fault_at : Refusal → ℕ → Fault
fault_at r place = record { layer = layer_of r; refusal = r; place = place }
