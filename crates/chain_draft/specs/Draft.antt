-- A draft of a chain: when another codec is refused, and what is added when it is not.
use Rattle.std.specs.Prelude.{◌≡◌, ℕ, List, [], ◌∷◌, ◌++◌, length, take, Some, None, Option, nat_lt, is_some, is_none}
use Rattle.form.specs.Answers.{checked}
use Rattle.base_codecs.specs.declared.chosen.Chosen.TheVariants.{First, Second}
use Rattle.transpose.specs.declared.transpose_codec.TransposeCodec.{TransposeCodec}
use Rattle.shuffle.specs.declared.shuffle_codec.ShuffleCodec.{ShuffleCodec}
use Rattle.array_codecs.specs.Chosen.{ArrayCodec}
use Rattle.byte_codecs.specs.Chosen.{ByteCodec}
use Rattle.bytes_codec.specs.declared.bytes_codec.Endianness.{Endianness}
use Rattle.arrayvec.specs.ArrayVec.{ArrayVec, array_vec_len}
use Rattle.chain_draft.specs.declared.ChainDraft.{ChainDraft}

-- a draft with no codecs
abbrev pub NoCodecs : ChainDraft → Type 0
NoCodecs draft = (draft.array_to_array.items ≡ []) × (draft.array_to_bytes ≡ None) × (draft.bytes_to_bytes.items ≡ [])

-- a list that has room for n codecs and is full is refused with 6
abbrev pub room_refusal : {C : Type 0} → ℕ → ArrayVec C → Option ℕ → Option ℕ
room_refusal n codecs own = checked (nat_lt (array_vec_len codecs) n) 6 own

-- an array codec once the bytes codec is there is refused with 5, a third one with 6, and then as the codec itself is
abbrev pub array_refusal : ChainDraft → Option ℕ → Option ℕ
array_refusal draft own = checked (is_none draft.array_to_bytes) 5 (room_refusal 2 draft.array_to_array own)

-- a second bytes codec is refused with 5
abbrev pub bytes_refusal : ChainDraft → Option ℕ
bytes_refusal draft = checked (is_none draft.array_to_bytes) 5 None

-- a byte codec before the bytes codec is refused with 5, a fifth one with 6, and then as the codec itself is
abbrev pub byte_refusal : ChainDraft → Option ℕ → Option ℕ
byte_refusal draft own = checked (is_some draft.array_to_bytes) 5 (room_refusal 4 draft.bytes_to_bytes own)

-- which codec it is
abbrev pub IsTranspose : List ℕ → ArrayCodec → Type 0
IsTranspose order codec =
    (c : TransposeCodec) × (c.dims ≡ length order) × (take c.dims c.order ≡ order) × (codec ≡ Second (First (record { codec = c })))

abbrev pub IsDifference : ArrayCodec → Type 0
IsDifference codec = codec ≡ Second (Second (record { codec = record {} }))

abbrev pub IsShuffle : ℕ → ByteCodec → Type 0
IsShuffle elementsize codec =
    (c : ShuffleCodec) × (c.elementsize ≡ elementsize) × (codec ≡ Second (First (record { codec = c })))

abbrev pub IsFletcher32 : ByteCodec → Type 0
IsFletcher32 codec = codec ≡ Second (Second (record { codec = record {} }))

-- a codec of the kind is added at the end
abbrev pub Appended : {C : Type 0} → (C → Type 0) → ArrayVec C → ArrayVec C → Type 0
Appended {C} Is old new = (c : C) × Is c × (new.items ≡ old.items ++ c ∷ [])

-- the one list has a codec more, and everything else is as it was
abbrev pub ArrayCodecAdded : (ArrayCodec → Type 0) → ChainDraft → ChainDraft → Type 0
ArrayCodecAdded Is old new =
    Appended Is old.array_to_array new.array_to_array × (new.array_to_bytes ≡ old.array_to_bytes) × (new.bytes_to_bytes ≡ old.bytes_to_bytes)

abbrev pub ByteCodecAdded : (ByteCodec → Type 0) → ChainDraft → ChainDraft → Type 0
ByteCodecAdded Is old new =
    Appended Is old.bytes_to_bytes new.bytes_to_bytes × (new.array_to_array ≡ old.array_to_array) × (new.array_to_bytes ≡ old.array_to_bytes)

-- the bytes codec with the byte order is there, and both lists are as they were
abbrev pub BytesCodecAdded : Option Endianness → ChainDraft → ChainDraft → Type 0
BytesCodecAdded endian old new = new ≡ record old { array_to_bytes = Some (record { endian = endian }) }
