-- A chain that codes by the codecs of a draft.
use Rattle.std.proofs.Common.{◌≡◌, ℕ, ◌^◌, ◌<◌, ◌≤◌, List, [], ◌∷◌, ◌++◌, length, get_or, Some, None, Ok, Option, subst, sym, ap, ◌∙◌, arith, length-append}
use Rattle.std.specs.Option.{option_or, is_some}
use Rattle.form.specs.Answers.{checked, Answers}
use Rattle.form.specs.declared.array_form.Form.{Form}
use Rattle.form.proofs.Sized.{form_facts}
use Rattle.stage.specs.Stage.{Stage}
use Rattle.stage.specs.Arrays.{array_bytes}
use Rattle.stage.specs.Single.{single, by_parts}
use Rattle.pair.specs.Compose.{after}
use Rattle.base_codecs.specs.declared.chosen.Chosen.TheVariants.{First, Second}
use Rattle.base_codecs.specs.Chosen.{empty_choice}
use Rattle.array_codecs.specs.Chosen.{ArrayCodec, chosen_array}
use Rattle.byte_codecs.specs.Chosen.{ByteCodec, chosen_stage}
use Rattle.bytes_codec.specs.declared.bytes_codec.BytesCodec.{BytesCodec}
use Rattle.bytes_codec.specs.ByteOrder.{byte_ordering}
use Rattle.chain_draft.specs.Laws.{bytes, byte_codec_laws, two_laws}
use Rattle.chain_draft.specs.Seal.{coded_by, refused_by, singles_of, CodesBy}
use Rattle.codec_chain.proofs.Order.{or_twice}
use Rattle.chain_draft.proofs.Runs.{Runs, Bounded, bounded, runs_none, runs_one, runs_after}

abbrev array_seat : List ArrayCodec → ℕ → Stage Form Form
array_seat cs k = chosen_array (get_or cs k empty_choice)

abbrev byte_seat : List ByteCodec → ℕ → Stage ℕ ℕ
byte_seat cs k = chosen_stage (get_or cs k empty_choice)

forms_bounded : (t : Stage Form Form) → Bounded chosen_array array_bytes t
forms_bounded t f r = (form_facts (t.coded f)).fits

arrays_run : (cs : List ArrayCodec) → length cs ≤ 2 → Runs chosen_array array_bytes cs (after (array_seat cs 1) (array_seat cs 0))
arrays_run [] h = runs_after chosen_array array_bytes [] [] (array_seat [] 0) (array_seat [] 1) (forms_bounded (array_seat [] 0)) (runs_none chosen_array array_bytes) (runs_none chosen_array array_bytes)
arrays_run (c ∷ []) h = runs_after chosen_array array_bytes (c ∷ []) [] (chosen_array c) (array_seat [] 1) (forms_bounded (chosen_array c)) (runs_one chosen_array array_bytes c) (runs_none chosen_array array_bytes)
arrays_run (c ∷ d ∷ []) h = runs_after chosen_array array_bytes (c ∷ []) (d ∷ []) (chosen_array c) (chosen_array d) (forms_bounded (chosen_array c)) (runs_one chosen_array array_bytes c) (runs_one chosen_array array_bytes d)
arrays_run (c ∷ d ∷ e ∷ cs) h = absurd (omega arith)

-- two seats of a list
pair_runs : (cs : List ByteCodec) → length cs ≤ 2 → Runs chosen_stage bytes cs (after (byte_seat cs 1) (byte_seat cs 0))
pair_runs [] h = runs_after chosen_stage bytes [] [] _ _ (bounded chosen_stage bytes _ (byte_codec_laws empty_choice)) (runs_none chosen_stage bytes) (runs_none chosen_stage bytes)
pair_runs (c ∷ []) h = runs_after chosen_stage bytes (c ∷ []) [] _ _ (bounded chosen_stage bytes _ (byte_codec_laws c)) (runs_one chosen_stage bytes c) (runs_none chosen_stage bytes)
pair_runs (c ∷ d ∷ []) h = runs_after chosen_stage bytes (c ∷ []) (d ∷ []) _ _ (bounded chosen_stage bytes _ (byte_codec_laws c)) (runs_one chosen_stage bytes c) (runs_one chosen_stage bytes d)
pair_runs (c ∷ d ∷ e ∷ cs) h = absurd (omega arith)

-- four seats: the first two codecs, and the others
four_run : (cs ds : List ByteCodec) → length cs ≤ 2 → length ds ≤ 2 → Runs chosen_stage bytes (cs ++ ds) (after (after (byte_seat ds 1) (byte_seat ds 0)) (after (byte_seat cs 1) (byte_seat cs 0)))
four_run cs ds h k =
    runs_after chosen_stage bytes cs ds _ _
    (bounded chosen_stage bytes _ (two_laws (get_or cs 1 empty_choice) (get_or cs 0 empty_choice)))
    (pair_runs cs h) (pair_runs ds k)

bytes_run : (cs : List ByteCodec) → length cs ≤ 4 → Runs chosen_stage bytes cs (after (after (byte_seat cs 3) (byte_seat cs 2)) (after (byte_seat cs 1) (byte_seat cs 0)))
bytes_run [] h = four_run [] [] (omega arith) (omega arith)
bytes_run (c ∷ []) h = four_run (c ∷ []) [] (omega arith) (omega arith)
bytes_run (c ∷ d ∷ []) h = four_run (c ∷ d ∷ []) [] (omega arith) (omega arith)
bytes_run (c ∷ d ∷ e ∷ []) h = four_run (c ∷ d ∷ []) (e ∷ []) (omega arith) (omega arith)
bytes_run (c ∷ d ∷ e ∷ g ∷ []) h = four_run (c ∷ d ∷ []) (e ∷ g ∷ []) (omega arith) (omega arith)
bytes_run (c ∷ d ∷ e ∷ g ∷ i ∷ cs) h = absurd (omega arith)

-- the chain of the seats
pub codes_by : (arrays : List ArrayCodec) (codec : BytesCodec) (cs : List ByteCodec) → length arrays ≤ 2 → length cs ≤ 4
    → CodesBy arrays codec cs
    (after (after (after (byte_seat cs 3) (byte_seat cs 2)) (after (byte_seat cs 1) (byte_seat cs 0)))
    (after (single array_bytes (λ n. n) (byte_ordering codec.endian)) (after (array_seat arrays 1) (array_seat arrays 0))))
codes_by arrays codec cs h k =
    let a = arrays_run arrays h in
    let s = bytes_run cs k in
    let t : Stage Form Form = after (array_seat arrays 1) (array_seat arrays 0) in
    let u : Stage ℕ ℕ = after (after (byte_seat cs 3) (byte_seat cs 2)) (after (byte_seat cs 1) (byte_seat cs 0)) in
    let g : Form → Form = coded_by chosen_array arrays in record {
      singles = ap (λ v. v ++ (by_parts ∷ t.singles)) s.singles ∙ ap (λ v. singles_of chosen_stage cs ++ (by_parts ∷ v)) a.singles;
      refuses = λ f.
          or_twice (t.refusal f) ((byte_ordering codec.endian).refusal (t.coded f)) (u.refusal (array_bytes (t.coded f)))
          ∙ ap (λ v. option_or v (option_or ((byte_ordering codec.endian).refusal (t.coded f)) (u.refusal (array_bytes (t.coded f))))) (a.refuses f (form_facts f).fits)
          ∙ ap (λ v. option_or (refused_by chosen_array arrays f) (option_or ((byte_ordering codec.endian).refusal v) (u.refusal (array_bytes v)))) (a.coded f)
          ∙ ap (λ v. option_or (refused_by chosen_array arrays f) (option_or ((byte_ordering codec.endian).refusal (g f)) v)) (s.refuses (array_bytes (g f)) (form_facts (g f)).fits);
      coded = λ f. ap (λ v. u.coded (array_bytes v)) (a.coded f) ∙ s.coded (array_bytes (g f));
      encodes = λ f x.
          ap (λ v. u.encoded (array_bytes v) ((byte_ordering codec.endian).encoded v (t.encoded f x))) (a.coded f)
          ∙ ap (λ v. u.encoded (array_bytes (g f)) ((byte_ordering codec.endian).encoded (g f) v)) (a.encodes f x)
          ∙ s.encodes (array_bytes (g f)) _;
    }

array_few : (c : ArrayCodec) → length (chosen_array c).singles ≤ 1
array_few (First c) = omega arith
array_few (Second (First c)) = omega arith
array_few (Second (Second c)) = omega arith

byte_few : (c : ByteCodec) → length (chosen_stage c).singles ≤ 1
byte_few (First c) = omega arith
byte_few (Second (First c)) = omega arith
byte_few (Second (Second c)) = omega arith

pub few_singles : (a b : ArrayCodec) (codec : BytesCodec) (c d e g : ByteCodec)
    → length (after (after (after (chosen_stage c) (chosen_stage d)) (after (chosen_stage e) (chosen_stage g)))
    (after (single array_bytes (λ n. n) (byte_ordering codec.endian)) (after (chosen_array a) (chosen_array b)))).singles < 2 ^ 64
few_singles a b codec c d e g =
    let sa = (chosen_array a).singles in
    let sb = (chosen_array b).singles in
    let sc = (chosen_stage c).singles in
    let sd = (chosen_stage d).singles in
    let se = (chosen_stage e).singles in
    let sg = (chosen_stage g).singles in
    omega (
      arith,
      array_few a,
      array_few b,
      byte_few c,
      byte_few d,
      byte_few e,
      byte_few g,
      length-append ((sc ++ sd) ++ (se ++ sg)) (by_parts ∷ (sa ++ sb)),
      length-append (sc ++ sd) (se ++ sg),
      length-append sc sd,
      length-append se sg,
      length-append sa sb,
    )

-- the draft has a bytes codec
pub sealed_by : {X : Type 0} (o : Option BytesCodec) (codec : BytesCodec) (P : X → Type 0) (x : X) → o ≡ Some codec → P x → Answers (checked (is_some o) 5 None) P (Ok x)
sealed_by o codec P x e p = subst (λ v. Answers (checked (is_some v) 5 None) P (Ok x)) (sym e) p
