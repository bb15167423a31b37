-- What the console prints of an answer.
use Rattle.std.specs.Prelude.{ℕ, Bool, ◌+◌, cond, List, [], ◌∷◌, ◌++◌, length, Some, None, Option, codes}
use Rattle.std.specs.Fmt.{decimal}
use Rattle.std.specs.List.{flat_map}
use Rattle.std.proofs.Math.Utf8.{encode}
use Rattle.base.specs.declared.book.Entry.{Entry}
use Rattle.base.specs.Shown.{fault_text, entry_text}
use Rattle.frames.specs.Shown.{tag_text, frame_text, slot_text}
use Rattle.console.specs.declared.trouble.Mistake.{Mistake}
use Rattle.console.specs.declared.trouble.Mistake.TheVariants.{LineTooLong, UnknownCommand, WrongWords, NumberTooLarge, NoOpenTable, NoLockedTable, NoRule, NoPolicy, NoSeal, NoBatches, NoHall, NoSlot}
use Rattle.console.specs.declared.trouble.Trouble.{Trouble}
use Rattle.console.specs.declared.trouble.Trouble.TheVariants.{Mistake as Mistaken, Refused, OutOfMemory}
use Rattle.console.specs.declared.reply.Book.{Book}
use Rattle.console.specs.declared.reply.Seats.{Seats}
use Rattle.console.specs.declared.reply.Marks.{Marks}
use Rattle.console.specs.declared.reply.Digits.{Digits}
use Rattle.console.specs.declared.reply.Reply.{Reply}
use Rattle.console.specs.declared.reply.Reply.TheVariants as R

abbrev pub mistake_text : Mistake → List ℕ
mistake_text LineTooLong = codes "line too long"
mistake_text UnknownCommand = codes "unknown command"
mistake_text WrongWords = codes "wrong words"
mistake_text NumberTooLarge = codes "number too large"
mistake_text NoOpenTable = codes "no open table"
mistake_text NoLockedTable = codes "no locked table"
mistake_text NoRule = codes "no rule"
mistake_text NoPolicy = codes "no policy"
mistake_text NoSeal = codes "no seal"
mistake_text NoBatches = codes "no number of batches"
mistake_text NoHall = codes "no hall"
mistake_text NoSlot = codes "no such slot"

-- running out of memory is no answer
abbrev pub trouble_text : Trouble → Option (List ℕ)
trouble_text (Mistaken m) = Some (codes "error (" ++ mistake_text m ++ codes ")")
trouble_text (Refused x) = Some (fault_text x)
trouble_text (OutOfMemory e) = None

abbrev pub entry_line : ℕ → Entry → List ℕ
entry_line k e = codes "entry " ++ decimal k ++ codes " " ++ entry_text e ++ codes "\n"

-- what each item prints by its number, the first by k
abbrev pub numbered : {A : Type 0} → (ℕ → A → List ℕ) → ℕ → List A → List ℕ
numbered text k [] = []
numbered text k (x ∷ xs) = text k x ++ numbered text (k + 1) xs

-- a line for each entry
abbrev pub lines_from : ℕ → List Entry → List ℕ
lines_from = numbered entry_line

abbrev pub book_text : Book → List ℕ
book_text b = lines_from 1 b.0.items

abbrev pub seat_text : ℕ → Bool → List ℕ
seat_text i sits = cond sits (codes " " ++ decimal i) []

-- the stations that sit, each behind a blank
abbrev pub seats_text : Seats → List ℕ
seats_text s = numbered seat_text 0 s.0

abbrev pub marks_text : Marks → List ℕ
marks_text m = cond m.0.0 (codes " reselected") [] ++ cond m.0.1 (codes " proposed") [] ++ cond m.0.2 (codes " decided") []

abbrev pub digits_text : Digits → List ℕ
digits_text d = decimal (length d.0.items) ++ codes " " ++ flat_map encode d.0.items

abbrev pub reply_text : Reply → List ℕ
reply_text R.Done = codes "ok"
reply_text (R.Book b) = codes "ok " ++ decimal (length b.0.items)
reply_text (R.Seats s) = codes "ok" ++ seats_text s
reply_text (R.Tag t) = codes "ok " ++ tag_text t
reply_text (R.Bytes n) = codes "ok " ++ decimal n
reply_text (R.Decoded x) = codes "ok " ++ frame_text x
reply_text (R.Marks m) = codes "ok" ++ marks_text m
reply_text (R.Booked e) = codes "ok " ++ entry_text e
reply_text (R.Written d) = codes "ok " ++ digits_text d
reply_text (R.Shown s) = codes "ok " ++ slot_text s
