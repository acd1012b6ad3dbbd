-- A draft that is sealed: its codecs in the seats of a chain.
use Rattle.std.specs.Prelude.{◌≡◌, ℕ, List, [], ◌∷◌, ◌++◌, reverse, get_or, Some, None, Option, is_some}
use Rattle.std.specs.List.{flat_map}
use Rattle.std.specs.Option.{option_or}
use Rattle.form.specs.declared.array_form.Form.{Form}
use Rattle.form.specs.Answers.{checked}
use Rattle.stage.specs.declared.capability.PartialDecoderCapability.{PartialDecoderCapability}
use Rattle.stage.specs.Stage.{Stage}
use Rattle.stage.specs.Arrays.{array_bytes}
use Rattle.stage.specs.Single.{single, by_parts}
use Rattle.pair.specs.Compose.{after}
use Rattle.codec_chain.specs.Chain.{chain_stage}
use Rattle.pair.specs.declared.Pair.{Pair}
use Rattle.base_codecs.specs.declared.single.Single.{Single}
use Rattle.base_codecs.specs.Chosen.{empty_choice}
use Rattle.array_codecs.specs.Chosen.{ArrayCodec, chosen_array}
use Rattle.byte_codecs.specs.Chosen.{ByteCodec, chosen_stage}
use Rattle.bytes_codec.specs.declared.bytes_codec.BytesCodec.{BytesCodec}
use Rattle.bytes_codec.specs.ByteOrder.{byte_ordering}
use Rattle.chain_draft.specs.declared.ChainDraft.{ChainDraft}
use Rattle.chain_draft.specs.declared.byte_stages.ByteStages.{ByteStages}

-- a draft without a bytes codec is refused with 5
abbrev pub seal_refusal : ChainDraft → Option ℕ
seal_refusal draft = checked (is_some draft.array_to_bytes) 5 None

-- seat k of array codecs has codec k, and the seats that are left are empty; seat 0 encodes first
abbrev pub ArrayStages : Type 0
ArrayStages = Pair ArrayCodec ArrayCodec

abbrev pub array_stages : List ArrayCodec → ArrayStages
array_stages codecs = record { outer = get_or codecs 1 empty_choice; inner = get_or codecs 0 empty_choice }

-- the same of the four seats of byte codecs
abbrev pub in_seats : List ByteCodec → Pair (Pair ByteCodec ByteCodec) (Pair ByteCodec ByteCodec)
in_seats codecs = record {
  outer = record { outer = get_or codecs 3 empty_choice; inner = get_or codecs 2 empty_choice };
  inner = record { outer = get_or codecs 1 empty_choice; inner = get_or codecs 0 empty_choice };
}

abbrev pub byte_stages : List ByteCodec → ByteStages
byte_stages codecs = record { seats = in_seats codecs }

-- the stages of a sealed chain
abbrev pub ChainStages : Type 0
ChainStages = Pair ByteStages (Pair (Single BytesCodec) ArrayStages)

abbrev pub chain_stages : List ArrayCodec → BytesCodec → List ByteCodec → ChainStages
chain_stages arrays codec bytes = record {
  outer = byte_stages bytes;
  inner = record { outer = record { codec = codec }; inner = array_stages arrays };
}

-- what the codecs in the seats mean together
abbrev pub array_stage : ArrayStages → Stage Form Form
array_stage s = after (chosen_array s.outer) (chosen_array s.inner)

abbrev pub bytes_stage : Single BytesCodec → Stage Form ℕ
bytes_stage s = single array_bytes (λ n. n) (byte_ordering s.codec.endian)

abbrev pub byte_stage : ByteStages → Stage ℕ ℕ
byte_stage s =
    after (after (chosen_stage s.seats.outer.outer) (chosen_stage s.seats.outer.inner))
    (after (chosen_stage s.seats.inner.outer) (chosen_stage s.seats.inner.inner))

abbrev pub sealed_stage : ChainStages → Stage Form ℕ
sealed_stage p = chain_stage array_stage bytes_stage byte_stage p

-- what a list of codecs, the first of which encodes first, makes of a form and of bytes, and how it refuses
module _ {C F : Type 0} (meaning : C → Stage F F) where
  abbrev pub coded_by : List C → F → F
  coded_by [] f = f
  coded_by (c ∷ cs) f = coded_by cs ((meaning c).coded f)

  abbrev pub encoded_by : List C → F → List ℕ → List ℕ
  encoded_by [] f x = x
  encoded_by (c ∷ cs) f x = encoded_by cs ((meaning c).coded f) ((meaning c).encoded f x)

  abbrev pub refused_by : List C → F → Option ℕ
  refused_by [] f = None
  refused_by (c ∷ cs) f = option_or ((meaning c).refusal f) (refused_by cs ((meaning c).coded f))

  -- their singles in decode order
  abbrev pub singles_of : List C → List PartialDecoderCapability
  singles_of codecs = flat_map (λ c. (meaning c).singles) (reverse codecs)

-- t codes by the codecs one after the other in encode order, and empty seats do nothing
pub record CodesBy (arrays : List ArrayCodec) (codec : BytesCodec) (bytes : List ByteCodec) (t : Stage Form ℕ) : Type 0 where
  pub singles : t.singles ≡ singles_of chosen_stage bytes ++ (by_parts ∷ singles_of chosen_array arrays)
  pub refuses : (f : Form) → t.refusal f ≡
      option_or (refused_by chosen_array arrays f)
      (option_or ((byte_ordering codec.endian).refusal (coded_by chosen_array arrays f))
      (refused_by chosen_stage bytes (array_bytes (coded_by chosen_array arrays f))))
  pub coded : (f : Form) → t.coded f ≡ coded_by chosen_stage bytes (array_bytes (coded_by chosen_array arrays f))
  pub encodes : (f : Form) (x : List ℕ) → t.encoded f x ≡
      encoded_by chosen_stage bytes (array_bytes (coded_by chosen_array arrays f))
      ((byte_ordering codec.endian).encoded (coded_by chosen_array arrays f) (encoded_by chosen_array arrays f x))

-- the chain has the draft's codecs in its seats, and codes by them
abbrev pub Seals : ChainDraft → ChainStages → Type 0
Seals draft stages =
    (codec : BytesCodec) × (draft.array_to_bytes ≡ Some codec)
    × (stages ≡ chain_stages draft.array_to_array.items codec draft.bytes_to_bytes.items)
    × CodesBy draft.array_to_array.items codec draft.bytes_to_bytes.items (sealed_stage stages)
