-- What the commands of forms, stages and buffers leave and answer.
use Rattle.std.specs.Prelude.{◌≡◌, ℕ, ◌+◌, ◌-◌, ◌*◌, ◌<◌, ◌≤◌, ◌⊎◌, Bool, List, ◌++◌, length, map, take, drop, replicate, Some, None, Ok, Err, vec_items, vec_len, Option, Result}
use Rattle.std.specs.List.{range_with_len}
use Rattle.form.specs.declared.fault.Fault.{Fault}
use Rattle.form.specs.declared.array_form.Form.{Form}
use Rattle.form.specs.Refusals.{Refusal, refusal, plain}
use Rattle.form.specs.Shapes.{product}
use Rattle.form.specs.Types.{size_of_code}
use Rattle.form.specs.Forms.{form_refusal, Made}
use Rattle.stage.specs.declared.capability.PartialDecoderCapability.{PartialDecoderCapability}
use Rattle.stage.specs.Stage.{Stage}
use Rattle.stage.specs.Arrays.{array_bytes}
use Rattle.stage.specs.Calls.{encode_answer, undo_answer}
use Rattle.buffers.specs.declared.Buffers.{Buffers}
use Rattle.codec_chain.specs.Place.{cache_index}
use Rattle.codec_chain.specs.Whole.{encode_whole, decode_whole, decoded}
use Rattle.stage_names.specs.Names.{SaidStage}
use Rattle.chunkctl.specs.declared.trouble.Trouble.{Trouble}
use Rattle.chunkctl.specs.declared.trouble.Trouble.TheVariants.{Refused, Error}
use Rattle.chunkctl.specs.declared.trouble.Complaint.{Complaint}
use Rattle.chunkctl.specs.declared.trouble.Complaint.TheVariants.{NoMemory, BufferTooLarge, NoStages, ByteLength, ArrayLength, NoForm, NoChain}
use Rattle.chunkctl.specs.declared.answer.Answer.{Answer}
use Rattle.chunkctl.specs.declared.answer.Answer.TheVariants.{Done, Commands, Form as Formed, Chain as ChainIs, Output, Bytes, Singles as SinglesAre, Lengths as LengthsAre, Sum as SumIs, Capacity as CapacityIs, Length as LengthIs}
use Rattle.chunkctl.specs.declared.command.Run.{Run}
use Rattle.chunkctl.specs.declared.command.Undo.{Undo as Undoing}
use Rattle.chunkctl.specs.declared.stages.Stages.{Stages}
use Rattle.chunkctl.specs.declared.stages.Stages.TheVariants.{ArrayToArray, ArrayToBytes, BytesToBytes, Chain}
use Rattle.chain_draft.specs.Seal.{ChainStages, array_stage, bytes_stage, byte_stage, sealed_stage}
use Rattle.stage_names.specs.Drafting.{Chained}
use Rattle.chunkctl.specs.Stages.{Built}

-- a refusal with a number alone
abbrev pub IsRefused : ℕ → Trouble → Type 0
IsRefused n (Refused e) = refusal e ≡ plain n
IsRefused n (Error c) = ⊥

-- with no refusal an answer, and else that refusal
abbrev pub Unrefused : Option ℕ → (Answer → Type 0) → Result Answer Trouble → Type 0
Unrefused None P (Ok a) = P a
Unrefused None P (Err t) = ⊥
Unrefused (Some n) P (Ok a) = ⊥
Unrefused (Some n) P (Err t) = IsRefused n t

-- the bytes of an answer that has them
abbrev pub bytes_of : Answer → Option (List ℕ)
bytes_of Done = None
bytes_of Commands = None
bytes_of (Formed n m) = None
bytes_of (ChainIs place n) = None
bytes_of (Output n) = None
bytes_of (Bytes v) = Some (vec_items v)
bytes_of (SinglesAre v) = None
bytes_of (LengthsAre v) = None
bytes_of (SumIs n) = None
bytes_of (CapacityIs n) = None
bytes_of (LengthIs n) = None

-- what the singles of an answer can do, and its lengths
abbrev pub singles_of : Answer → Option (List PartialDecoderCapability)
singles_of Done = None
singles_of Commands = None
singles_of (Formed n m) = None
singles_of (ChainIs place n) = None
singles_of (Output n) = None
singles_of (Bytes v) = None
singles_of (SinglesAre v) = Some (map (λ s. s.0) (vec_items v))
singles_of (LengthsAre v) = None
singles_of (SumIs n) = None
singles_of (CapacityIs n) = None
singles_of (LengthIs n) = None

abbrev pub lengths_of : Answer → Option (List ℕ)
lengths_of Done = None
lengths_of Commands = None
lengths_of (Formed n m) = None
lengths_of (ChainIs place n) = None
lengths_of (Output n) = None
lengths_of (Bytes v) = None
lengths_of (SinglesAre v) = None
lengths_of (LengthsAre v) = Some (vec_items v)
lengths_of (SumIs n) = None
lengths_of (CapacityIs n) = None
lengths_of (LengthIs n) = None

-- why a buffer of n bytes is not made
abbrev pub NotMade : ℕ → Trouble → Type 0
NotMade n (Error BufferTooLarge) = 1048576 < n
NotMade n (Error NoMemory) = Unit {0}
NotMade n _ = ⊥

-- buffers are set anew, or an error leaves all as they were
abbrev pub OutputSet : ℕ → Buffers → Buffers → Result Answer Trouble → Type 0
OutputSet n old new (Ok a) = (a ≡ Done) × (n ≤ 1048576) × (vec_items new.output ≡ replicate n 238) × (new.work ≡ old.work) × (new.scratch ≡ old.scratch)
OutputSet n old new (Err t) = NotMade n t × (new ≡ old)

abbrev pub WorkSet : ℕ → ℕ → Buffers → Buffers → Result Answer Trouble → Type 0
WorkSet n m old new (Ok a) = (a ≡ Done) × (n ≤ 1048576) × (m ≤ 1048576) × (vec_len new.work ≡ n) × (vec_len new.scratch ≡ m) × (new.output ≡ old.output)
WorkSet n m old new (Err t) = (NotMade n t ⊎ NotMade m t) × (new ≡ old)

-- a form that is taken is kept, and one that is refused leaves the earlier one
abbrev pub FormSet : List ℕ → ℕ → List ℕ → Option Form → Result Answer Trouble → Type 0
FormSet shape code fill new r =
    Unrefused (form_refusal shape code fill)
    (λ a. (a ≡ Formed (product shape) (product shape * size_of_code code)) × ((f : Form) × (new ≡ Some f) × Made shape code fill f)) r

-- stages that were made are kept and answered for, and where they were refused that is told
abbrev pub Taken : {X : Type 0} → (X → Stages) → (X → Answer) → Result X Fault → Option Stages → Result Answer Trouble → Type 0
Taken stages answer (Ok x) new r = (new ≡ Some (stages x)) × (r ≡ Ok (answer x))
Taken stages answer (Err e) new r = r ≡ Err (Refused e)

abbrev pub StagesSet : Run → Option Stages → Result Answer Trouble → Type 0
StagesSet run new r = (made : Result Stages Fault) × (Built run made × Taken (λ s. s) (λ s. Done) made new r)

-- a chain is kept with the form that it is fitted to
abbrev pub IsChain : ChainStages → Form → Option Stages → Type 0
IsChain p form (Some (Chain c)) = (c.chain.stages ≡ p) × (c.form ≡ form)
IsChain p form _ = ⊥

abbrev pub ChainTaken : Form → Result ChainStages Fault → Option Stages → Result Answer Trouble → Type 0
ChainTaken form (Ok p) new r =
    IsChain p form new × (r ≡ Ok (ChainIs (cache_index (sealed_stage p).singles) ((sealed_stage p).size form 0)))
ChainTaken form (Err e) new r = r ≡ Err (Refused e)

abbrev pub ChainSet : List SaidStage → Option Form → Option Stages → Result Answer Trouble → Type 0
ChainSet stages None new r = r ≡ Err (Error NoForm)
ChainSet stages (Some form) new r = (made : Result ChainStages Fault) × (Chained stages form made × ChainTaken form made new r)

-- what is decoded: a length for stages over bytes, and the form for those over arrays
abbrev pub length_of : Option ℕ → Result ℕ Complaint
length_of (Some n) = Ok n
length_of None = Err ByteLength

abbrev pub form_of : Option ℕ → Option Form → Result Form Complaint
form_of (Some n) form = Err ArrayLength
form_of None None = Err NoForm
form_of None (Some f) = Ok f

-- where what is decoded is not told the call is an error
abbrev pub Decoding : {F : Type 0} → Result F Complaint → (F → Result Answer Trouble → Type 0) → Result Answer Trouble → Type 0
Decoding (Ok f) P r = P f r
Decoding (Err c) P r = r ≡ Err (Error c)

-- what the singles can do, unless there is no memory for that
abbrev pub SinglesTold : List PartialDecoderCapability → Result Answer Trouble → Type 0
SinglesTold singles (Ok a) = singles_of a ≡ Some singles
SinglesTold singles (Err t) = t ≡ Error NoMemory

abbrev pub SinglesAnswer : Option Stages → Result Answer Trouble → Type 0
SinglesAnswer None r = r ≡ Err (Error NoStages)
SinglesAnswer (Some (ArrayToArray s)) r = SinglesTold (array_stage s).singles r
SinglesAnswer (Some (ArrayToBytes s)) r = SinglesTold (bytes_stage s).singles r
SinglesAnswer (Some (BytesToBytes s)) r = SinglesTold (byte_stage s).singles r
SinglesAnswer (Some (Chain c)) r = SinglesTold (sealed_stage c.chain.stages).singles r

-- the length at every place, unless the form is refused or there is no memory for that
abbrev pub LengthsTold : {F G : Type 0} → Stage F G → F → Result Answer Trouble → Type 0
LengthsTold t f (Ok a) = (t.refusal f ≡ None) × (lengths_of a ≡ Some (map (t.size f) (range_with_len 0 (length t.singles + 1))))
LengthsTold t f (Err (Refused e)) = (n : ℕ) × (t.refusal f ≡ Some n) × (refusal e ≡ plain n)
LengthsTold t f (Err (Error c)) = c ≡ NoMemory

abbrev pub LengthsAnswer : Option Stages → Option Form → Option ℕ → Result Answer Trouble → Type 0
LengthsAnswer None form decoded r = r ≡ Err (Error NoStages)
LengthsAnswer (Some (ArrayToArray s)) form decoded r = Decoding (form_of decoded form) (LengthsTold (array_stage s)) r
LengthsAnswer (Some (ArrayToBytes s)) form decoded r = Decoding (form_of decoded form) (LengthsTold (bytes_stage s)) r
LengthsAnswer (Some (BytesToBytes s)) form decoded r = Decoding (length_of decoded) (LengthsTold (byte_stage s)) r
LengthsAnswer (Some (Chain c)) form decoded r = Decoding (form_of decoded (Some c.form)) (LengthsTold (sealed_stage c.chain.stages)) r

-- what a call of the library answers, and what it leaves in an output buffer that held EE
abbrev pub Called : Result ℕ Refusal → List ℕ → ℕ → List ℕ → Result Answer Trouble → Type 0
Called answer x size new (Ok a) = (n : ℕ) × (a ≡ Output n) × (answer ≡ Ok n) × (new ≡ x ++ drop n (replicate size 238))
Called answer x size new (Err t) = (e : Fault) × (t ≡ Refused e) × (answer ≡ Err (refusal e)) × (new ≡ replicate size 238)

-- so of the calls of a stage, where f is decoded
module _ {F G : Type 0} (weight : F → ℕ) (t : Stage F G) (f : F) where
  abbrev pub EncodesBy : List ℕ → Buffers → Buffers → Result Answer Trouble → Type 0
  EncodesBy input old new r =
      Called (encode_answer weight t f input (vec_len old.output) (vec_len old.work) (vec_len old.scratch))
      (t.encoded f input) (vec_len old.output) (vec_items new.output) r

  abbrev pub UndoesBy : Undoing → Buffers → Buffers → Result Answer Trouble → Type 0
  UndoesBy u old new r =
      Called (undo_answer weight t f u.from u.to u.checks (vec_items u.input) (vec_len old.output) (vec_len old.work) (vec_len old.scratch))
      (t.undone f u.from u.to (vec_items u.input)) (vec_len old.output) (vec_items new.output) r

-- and of the whole calls of a chain
module _ (p : ChainStages) (f : Form) where
  abbrev pub EncodesWhole : List ℕ → Buffers → Buffers → Result Answer Trouble → Type 0
  EncodesWhole input old new r =
      Called (encode_whole array_bytes (sealed_stage p) f input (vec_len old.output) (vec_len old.work) (vec_len old.scratch))
      ((sealed_stage p).encoded f input) (vec_len old.output) (vec_items new.output) r

  abbrev pub DecodesWhole : Bool → List ℕ → Buffers → Buffers → Result Answer Trouble → Type 0
  DecodesWhole checks input old new r =
      Called (decode_whole array_bytes (sealed_stage p) f checks input (vec_len old.output) (vec_len old.work) (vec_len old.scratch))
      (decoded (sealed_stage p) f input) (vec_len old.output) (vec_items new.output) r

abbrev pub Encodes : Option Stages → Option Form → List ℕ → Buffers → Buffers → Result Answer Trouble → Type 0
Encodes None form input old new r = r ≡ Err (Error NoStages)
Encodes (Some (ArrayToArray s)) form input old new r = Decoding (form_of None form) (λ f. EncodesBy array_bytes (array_stage s) f input old new) r
Encodes (Some (ArrayToBytes s)) form input old new r = Decoding (form_of None form) (λ f. EncodesBy array_bytes (bytes_stage s) f input old new) r
Encodes (Some (BytesToBytes s)) form input old new r = EncodesBy (λ n. n) (byte_stage s) (length input) input old new r
Encodes (Some (Chain c)) form input old new r = EncodesWhole c.chain.stages c.form input old new r

abbrev pub Decodes : Option Stages → Bool → List ℕ → Buffers → Buffers → Result Answer Trouble → Type 0
Decodes None checks input old new r = r ≡ Err (Error NoStages)
Decodes (Some (ArrayToArray s)) checks input old new r = r ≡ Err (Error NoChain)
Decodes (Some (ArrayToBytes s)) checks input old new r = r ≡ Err (Error NoChain)
Decodes (Some (BytesToBytes s)) checks input old new r = r ≡ Err (Error NoChain)
Decodes (Some (Chain c)) checks input old new r = DecodesWhole c.chain.stages c.form checks input old new r

abbrev pub Undoes : Option Stages → Option Form → Undoing → Buffers → Buffers → Result Answer Trouble → Type 0
Undoes None form u old new r = r ≡ Err (Error NoStages)
Undoes (Some (ArrayToArray s)) form u old new r = Decoding (form_of u.decoded form) (λ f. UndoesBy array_bytes (array_stage s) f u old new) r
Undoes (Some (ArrayToBytes s)) form u old new r = Decoding (form_of u.decoded form) (λ f. UndoesBy array_bytes (bytes_stage s) f u old new) r
Undoes (Some (BytesToBytes s)) form u old new r = Decoding (length_of u.decoded) (λ n. UndoesBy (λ n. n) (byte_stage s) n u old new) r
Undoes (Some (Chain c)) form u old new r = Decoding (form_of u.decoded (Some c.form)) (λ f. UndoesBy array_bytes (sealed_stage c.chain.stages) f u old new) r

-- a call that is carried out or refused leaves the work buffers their lengths, and an error leaves every buffer as it was
abbrev pub SameLengths : Buffers → Buffers → Type 0
SameLengths old new = (vec_len new.work ≡ vec_len old.work) × (vec_len new.scratch ≡ vec_len old.scratch)

abbrev pub Kept : Buffers → Buffers → Result Answer Trouble → Type 0
Kept old new (Ok a) = SameLengths old new
Kept old new (Err (Refused e)) = SameLengths old new
Kept old new (Err (Error c)) = new ≡ old

-- all but the last four bytes
abbrev pub BeforeSum : List ℕ → Result Answer Trouble → Type 0
BeforeSum bytes (Ok a) = (4 ≤ length bytes) × (bytes_of a ≡ Some (take (length bytes - 4) bytes))
BeforeSum bytes (Err t) = (length bytes < 4) × IsRefused 13 t
