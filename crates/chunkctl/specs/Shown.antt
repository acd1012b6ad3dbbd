-- How answers are written.
use Rattle.std.specs.Prelude.{ℕ, ◌/◌, ◌%◌, Bool, cond, List, [], ◌∷◌, ◌++◌, take, Some, None, Ok, Err, vec_items, codes, decimal, unwrap_or, Option, Result}
use Rattle.form.specs.Refusals.{fault_text}
use Rattle.stage.specs.declared.capability.PartialDecoderCapability.{PartialDecoderCapability}
use Rattle.text.specs.Hex.{hex_of}
use Rattle.chunkctl.specs.declared.trouble.Complaint.{Complaint}
use Rattle.chunkctl.specs.declared.trouble.Complaint.TheVariants.{NoMemory, LineTooLong, UnknownCommand, WordCount, Number, Hex, Shape, DataType, Stage, StageKinds, Switch, BufferTooLarge, NoStages, ByteLength, ArrayLength, NoForm, NoChain, Pages, FrontTooLong, NoCell}
use Rattle.chunkctl.specs.declared.trouble.Trouble.{Trouble}
use Rattle.chunkctl.specs.declared.trouble.Trouble.TheVariants.{Refused, Error}
use Rattle.chunkctl.specs.declared.answer.Single.{Single}
use Rattle.chunkctl.specs.declared.answer.Answer.{Answer}
use Rattle.chunkctl.specs.declared.answer.Answer.TheVariants.{Done, Commands, Form, Chain, Output, Bytes, Singles, Lengths, Sum, Capacity, Length}

-- the text that a value prints
abbrev pub shown : {T : Type 0} → (T → Option (List ℕ)) → T → List ℕ
shown output x = unwrap_or (output x) []

-- values, each after a comma
abbrev pub more_text : {T : Type 0} → (T → List ℕ) → List T → List ℕ
more_text one [] = []
more_text one (x ∷ xs) = codes "," ++ (one x ++ more_text one xs)

-- values joined by commas, or - for none
abbrev pub list_text : {T : Type 0} → (T → List ℕ) → List T → List ℕ
list_text one [] = codes "-"
list_text one (x ∷ xs) = one x ++ more_text one xs

abbrev pub numbers_text : List ℕ → List ℕ
numbers_text ns = list_text decimal ns

abbrev pub yes_no : Bool → List ℕ
yes_no b = cond b (codes "yes") (codes "no")

abbrev pub single_text : PartialDecoderCapability → List ℕ
single_text s = yes_no s.partial_read ++ (codes "/" ++ yes_no s.partial_decode)

abbrev pub singles_text : List Single → List ℕ
singles_text ss = list_text (λ s. single_text s.0) ss

abbrev pub complaint_text : Complaint → List ℕ
complaint_text NoMemory = codes "no memory"
complaint_text LineTooLong = codes "line too long"
complaint_text UnknownCommand = codes "no such command"
complaint_text WordCount = codes "wrong number of words"
complaint_text Number = codes "a number is expected, of at most 64 bits"
complaint_text Hex = codes "lower-case hexadecimal is expected, or -"
complaint_text Shape = codes "lengths joined by x are expected, or -"
complaint_text DataType = codes "no such data type"
complaint_text Stage = codes "no such stage"
complaint_text StageKinds = codes "array stages, one bytes stage or byte stages are expected"
complaint_text Switch = codes "on or off is expected"
complaint_text BufferTooLarge = codes "buffer too large"
complaint_text NoStages = codes "no stages yet"
complaint_text ByteLength = codes "stages over bytes take a number for the decoded length"
complaint_text ArrayLength = codes "stages over arrays take - for the decoded length"
complaint_text NoForm = codes "no form yet"
complaint_text NoChain = codes "no chain yet"
complaint_text Pages = codes "pages joined by , are expected, or -"
complaint_text FrontTooLong = codes "more bytes than the buffer has"
complaint_text NoCell = codes "no cell yet"

abbrev pub trouble_text : Trouble → List ℕ
trouble_text (Refused e) = fault_text e
trouble_text (Error c) = codes "error: " ++ complaint_text c

-- a number, or a word where there is none
abbrev pub number_or : List ℕ → Option ℕ → List ℕ
number_or word None = word
number_or word (Some n) = decimal n

-- a checksum's four bytes, the most significant first
abbrev pub sum_bytes : ℕ → List ℕ
sum_bytes n = n / 16777216 % 256 ∷ (n / 65536 % 256 ∷ (n / 256 % 256 ∷ (n % 256 ∷ [])))

-- a blank and the value, where the answer has one; the list is the output buffer
abbrev pub value_text : List ℕ → Answer → List ℕ
value_text out Done = []
value_text out Commands = codes " help out work peek form stages chain singles lengths encode decode undo sum data slot pages length read replace erase dump"
value_text out (Form n m) = codes " " ++ (decimal n ++ (codes " " ++ decimal m))
value_text out (Chain place n) = codes " " ++ (number_or (codes "none") place ++ (codes " " ++ decimal n))
value_text out (Output n) = codes " " ++ hex_of (take n out)
value_text out (Bytes v) = codes " " ++ hex_of (vec_items v)
value_text out (Singles v) = codes " " ++ singles_text (vec_items v)
value_text out (Lengths v) = codes " " ++ numbers_text (vec_items v)
value_text out (Sum n) = codes " 0x" ++ hex_of (sum_bytes n)
value_text out (Capacity n) = codes " " ++ decimal n
value_text out (Length n) = codes " " ++ number_or (codes "absent") n

abbrev pub outcome_text : List ℕ → Result Answer Trouble → List ℕ
outcome_text out (Ok a) = codes "ok" ++ value_text out a
outcome_text out (Err t) = trouble_text t

-- the line, which ends in a newline
abbrev pub line_text : List ℕ → Result Answer Trouble → List ℕ
line_text out r = outcome_text out r ++ (10 ∷ [])
