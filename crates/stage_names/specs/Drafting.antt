-- Stages that are added to a draft of a chain.
use Rattle.std.specs.Prelude.{◌≡◌, ℕ, List, [], ◌∷◌, Some, None, Ok, Err, Option, Result, MatchOption}
use Rattle.form.specs.declared.array_form.Form.{Form}
use Rattle.form.specs.declared.fault.Fault.{Fault}
use Rattle.form.specs.Answers.{Answers}
use Rattle.transpose.specs.Transpose.{order_refusal}
use Rattle.shuffle.specs.Shuffle.{size_refusal}
use Rattle.chain_draft.specs.declared.ChainDraft.{ChainDraft}
use Rattle.chain_draft.specs.Draft.{NoCodecs, array_refusal, bytes_refusal, byte_refusal, IsTranspose, IsDifference, IsShuffle, IsFletcher32, ArrayCodecAdded, BytesCodecAdded, ByteCodecAdded}
use Rattle.chain_draft.specs.Seal.{ChainStages, sealed_stage, seal_refusal, Seals}
use Rattle.stage_names.specs.Names.{SaidStage, SaidTranspose, SaidDifference, SaidBytes, SaidShuffle, SaidFletcher32}

-- why a stage is not added
abbrev pub add_refusal : ChainDraft → SaidStage → Option ℕ
add_refusal draft (SaidTranspose order) = array_refusal draft (order_refusal order)
add_refusal draft SaidDifference = array_refusal draft None
add_refusal draft (SaidBytes endian) = bytes_refusal draft
add_refusal draft (SaidShuffle size) = byte_refusal draft (size_refusal size)
add_refusal draft SaidFletcher32 = byte_refusal draft None

-- what is added
abbrev pub Added : SaidStage → ChainDraft → ChainDraft → Type 0
Added (SaidTranspose order) old new = ArrayCodecAdded (IsTranspose order) old new
Added SaidDifference old new = ArrayCodecAdded IsDifference old new
Added (SaidBytes endian) old new = BytesCodecAdded endian old new
Added (SaidShuffle size) old new = ByteCodecAdded (IsShuffle size) old new
Added SaidFletcher32 old new = ByteCodecAdded IsFletcher32 old new

-- stages are added one by one, up to the first that is refused
abbrev pub AddedAll : ChainDraft → List SaidStage → Result ChainDraft Fault → Type 0
AddedAll draft [] r = r ≡ Ok draft
AddedAll draft (stage ∷ stages) r =
    MatchOption (add_refusal draft stage)
    ((next : ChainDraft) × Added stage draft next × AddedAll next stages r)
    (λ n. Answers (Some n) (λ _. ⊥) r)

-- what comes of a draft that was filled, or the refusal that stopped the filling
abbrev pub Filled : {X : Type 0} → (ChainDraft → Result X Fault → Type 0) → Result ChainDraft Fault → Result X Fault → Type 0
Filled P (Ok draft) result = P draft result
Filled P (Err e) result = result ≡ Err e

-- the stages are added one by one to a draft that has no codecs at first
abbrev pub Drafted : {X : Type 0} → List SaidStage → (ChainDraft → Result X Fault → Type 0) → Result X Fault → Type 0
Drafted stages P result =
    (empty : ChainDraft) × (filled : Result ChainDraft Fault) × NoCodecs empty × AddedAll empty stages filled × Filled P filled result

-- a draft is sealed, and the chain of its codecs is fitted to the form; p are its stages
abbrev pub Fits : ChainDraft → Form → Result ChainStages Fault → Type 0
Fits draft form made =
    MatchOption (seal_refusal draft)
    ((p : ChainStages) × Seals draft p × Answers ((sealed_stage p).refusal form) (λ q. q ≡ p) made)
    (λ n. Answers (Some n) (λ _. ⊥) made)

abbrev pub Chained : List SaidStage → Form → Result ChainStages Fault → Type 0
Chained stages form made = Drafted stages (λ draft r. Fits draft form r) made
