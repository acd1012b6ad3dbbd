-- The history that a list of calls makes: one call more at a time.
use Rattle.std.proofs.Common.{◌≡◌, ℕ, ◌+◌, ◌-◌, ◌<◌, ◌≤◌, List, [], ◌∷◌, ◌++◌, length, take, drop, set, get_or, length-append, length-drop, arith, Option, Some, None, Ok, Err, Result, OnOk, refl, sym, ap, subst, ◌∙◌}
use Rattle.std.proofs.lemmas.List.{take-take, take_more, take_more_set, take_all, drop-take, length-take-le, drop_all, append-nil, drop_at, drop-set-lt, drop-drop}
use Rattle.std.specs.Option.{option_or}
use Rattle.std.proofs.lemmas.Slice.{take-put_mid_below}
use borrow.Rule.Slice.PartMut.{put_mid}
use Rattle.chunks.specs.declared.cached.Cached.TheVariants.{NoPlace, Absent, Bytes as CachedBytes}
use Rattle.chunks.specs.declared.call.Call.{Call}
use Rattle.chunks.specs.declared.call.Answer.{Answer}
use Rattle.chunks.specs.declared.call.Answer.TheVariants.{Refused, Done, Bytes, Cached as TellCached}
use Rattle.chunks.specs.declared.call.Recorded.{Recorded}
use Rattle.chunks.specs.Views.{View, chained, array_of}
use Rattle.chunks.specs.Calls as calls
use Rattle.chunks.specs.Calls.{Ask, Event, Called, reads_subset, reads_range, asks_cached, writes, erases, refused, gives, cached, is_accepted, accepted_answer, or_refused, due, call_refusal, changed, unless_refused}
use Rattle.chunks.specs.Histories.{History, Carried, Law}
use Rattle.chunks.specs.Replays.{call_event, answered, used, used_by, Packed, recorded_event, events, Run, Makes, Always, AllRefused, OpenedAndMade, rewrites, Rewrites}
use Rattle.chunks.specs.Seen.{coder, seen}
use Rattle.codec_chain.specs.declared.fitted_chain.FittedChain.{FittedChain}
use Rattle.form.specs.declared.array_form.Form.{Form}
use Rattle.form.specs.declared.fault.Fault.{Fault}
use Rattle.stage.specs.declared.codec.Codec.{Ghosts as CodecGhosts}
use Rattle.stage.specs.declared.codec.Representation.{Ghosts as FormGhosts}
use Rattle.cells.specs.declared.cell.Cell.{Ghosts as CellGhosts}
use Rattle.chunks.specs.declared.open_chunk.OpenChunk.{OpenChunk}
use Rattle.chunks.proofs.Carrying.{carry}

-- RUNS

-- a run of steps is one of other steps that they give
run_map : {S T : Type 0} (f : S → T) (P : S → Event → S → Type 0) (Q : T → Event → T → Type 0) → ((s : S) (e : Event) (t : S) → P s e t → Q (f s) e (f t))
    → (u : S) (es : History) (v : S) → Run P u es v → Run Q (f u) es (f v)
run_map f P Q g u [] v r = ap f r
run_map f P Q g u (e ∷ es) v r = (f r.0, (run_map f P Q g u es r.0 r.1.0, g r.0 e v r.1.1))

-- ONE CALL MORE AT THE END

events_more : (work scratch : ℕ) (output : List ℕ) (cs : List Call) (rs : List Recorded) (c : Call) (r : Recorded) → length cs ≡ length rs
    → events work scratch output (cs ++ (c ∷ [])) (rs ++ (r ∷ [])) ≡ recorded_event work scratch output c r ∷ events work scratch output cs rs
events_more work scratch output [] [] c r e = refl
events_more work scratch output [] (x ∷ rs) c r e = absurd (omega arith)
events_more work scratch output (d ∷ cs) [] c r e = absurd (omega arith)
events_more work scratch output (d ∷ cs) (x ∷ rs) c r e =
    let l : length cs ≡ length rs = omega arith in
    ap (λ h. h ++ (recorded_event work scratch output d x ∷ [])) (events_more work scratch output cs rs c r l)

-- as many answers as there are calls
events_taken : (work scratch : ℕ) (output : List ℕ) (cs : List Call) (rs : List Recorded) → events work scratch output cs (take (length cs) rs) ≡ events work scratch output cs rs
events_taken work scratch output [] rs = refl
events_taken work scratch output (c ∷ cs) [] = refl
events_taken work scratch output (c ∷ cs) (r ∷ rs) = ap (λ h. h ++ (recorded_event work scratch output c r ∷ [])) (events_taken work scratch output cs rs)

used_by_more : (rs : List Recorded) (r : Recorded) → used_by (rs ++ (r ∷ [])) ≡ used_by rs + used r.answer
used_by_more [] r = omega arith
used_by_more (x ∷ rs) r = omega (arith, used_by_more rs r)

packed_more : (from : ℕ) (rs : List Recorded) (r : Recorded) → Packed from rs → r.from ≡ from + used_by rs → Packed from (rs ++ (r ∷ []))
packed_more from [] r p e = (e ∙ omega arith, tt)
packed_more from (x ∷ rs) r p e = (p.0, packed_more (from + used x.answer) rs r p.1 (e ∙ omega arith))

-- the same bytes up to the end of an answer are the same answer
same_answer : (a : Answer) (xs ys : List ℕ) → take (used a) xs ≡ take (used a) ys → answered a xs ≡ answered a ys
same_answer (Refused e) xs ys h = refl
same_answer Done xs ys h = refl
same_answer (Bytes n) xs ys h = ap gives h
same_answer (TellCached NoPlace) xs ys h = refl
same_answer (TellCached Absent) xs ys h = refl
same_answer (TellCached (CachedBytes n)) xs ys h = ap (λ z. cached (Some (Some z))) h

-- what the first i calls did: their answers have the first `from` bytes of the output, and the run is the same whatever lies past these
pub record Replayed {S : Type 0} (step : S → Event → S → Type 0) (work scratch : ℕ) (calls : List Call) (before : List Recorded) (buffer : List ℕ) (u : S) (i from : ℕ) (answers : List Recorded) (output : List ℕ) (v : S) : Type 0 where
  pub within : from ≤ length output
  pub count : from ≡ used_by (take i answers)
  pub packed : Packed 0 (take i answers)
  pub answers_past : drop i answers ≡ drop i before
  pub output_past : drop from output ≡ drop from buffer
  pub run : (later : List ℕ) → length later ≡ length output → take from later ≡ take from output → Run step u (events work scratch later (take i calls) (take i answers)) v

module _ {S : Type 0} (step : S → Event → S → Type 0) (work scratch : ℕ) (calls : List Call) (before : List Recorded) (buffer : List ℕ) (u : S)
    (i from : ℕ) (answers : List Recorded) (output : List ℕ) (v w : S) (d : Call) (a : Answer) (new : List ℕ)
    (past : Replayed step work scratch calls before buffer u i from answers output v) (call : i < length calls) (place : i < length answers)
    (size : length new ≡ length output - from) (fits : used a ≤ length new) (rest : drop (used a) new ≡ drop (used a) (drop from output))
    (made : step v (call_event (get_or calls i d) (length new) work scratch (answered a new)) w) where
  -- the call makes one step more
  replayed_more : Replayed step work scratch calls before buffer u (i + 1) (from + used a) (set answers i (record { answer = a; from = from })) (put_mid from (length output - from) output new) w
  replayed_more =
      let c = get_or calls i d in
      let after = put_mid from (length output - from) output new in
      let r : Recorded = record { answer = a; from = from } in
      let recorded : take (i + 1) (set answers i r) ≡ take i answers ++ (r ∷ []) = take_more_set answers i r place in
      let front : take from after ≡ take from output = take-put_mid_below from (length output - from) output new from (omega arith) past.within in
      let head : length (take from output) ≡ from = length-take-le from output past.within in
      let whole : after ≡ take from output ++ new =
      ap (λ ys. take from output ++ (new ++ ys)) (drop_all (length output - from) (drop from output) (omega (arith, length-drop from output)))
      ∙ ap (λ ys. take from output ++ ys) (append-nil new) in
      let back : drop from after ≡ new = ap (drop from) whole ∙ drop_at (take from output) new from head in
      let long : length after ≡ length output = ap length whole ∙ length-append (take from output) new ∙ omega arith in
      let same : length (take i calls) ≡ length (take i answers) = omega (arith, length-take-le i calls (omega arith), length-take-le i answers (omega arith)) in
      record {
        within = omega arith;
        count = ap (λ n. n + used a) past.count ∙ sym (used_by_more (take i answers) r) ∙ ap used_by (sym recorded);
        packed = subst (Packed 0) (sym recorded) (packed_more 0 (take i answers) r past.packed (past.count ∙ omega arith));
        answers_past = drop-set-lt (i + 1) answers i r (omega arith) ∙ sym (drop-drop 1 i answers) ∙ ap (drop 1) past.answers_past ∙ drop-drop 1 i before;
        output_past = sym (drop-drop (used a) from after) ∙ ap (drop (used a)) back ∙ rest ∙ ap (drop (used a)) past.output_past ∙ drop-drop (used a) from buffer;
        run = λ later l e.
            let near : take from later ≡ take from output = sym (take-take from (from + used a) later (omega arith)) ∙ ap (take from) e ∙ take-take from (from + used a) after (omega arith) ∙ front in
            let read : answered a (drop from later) ≡ answered a new =
            same_answer a (drop from later) new (sym (drop-take from (used a) later) ∙ ap (drop from) e ∙ drop-take from (used a) after ∙ ap (take (used a)) back) in
            let room : length (drop from later) ≡ length new = omega (arith, length-drop from later) in
            let told : recorded_event work scratch later c r ≡ call_event c (length new) work scratch (answered a new) =
            ap (λ n. call_event c n work scratch (answered a (drop from later))) room ∙ ap (call_event c (length new) work scratch) read in
            let split : events work scratch later (take (i + 1) calls) (take (i + 1) (set answers i r)) ≡ call_event c (length new) work scratch (answered a new) ∷ events work scratch later (take i calls) (take i answers) =
            ap (λ cs. events work scratch later cs (take (i + 1) (set answers i r))) (take_more calls i d call)
            ∙ ap (events work scratch later (take i calls ++ (c ∷ []))) recorded
            ∙ events_more work scratch later (take i calls) (take i answers) c r same
            ∙ ap (λ x. x ∷ events work scratch later (take i calls) (take i answers)) told in
            subst (λ es. Run step u es w) (sym split) (v, (past.run later (l ∙ long) near, made));
      }

-- A CHUNK THAT IS SHUT

abbrev told_of : Option ℕ → View → Event → calls.Answer
told_of q v e = or_refused q (accepted_answer v.coder v.cell (array_of v.coder v.cell) e.ask)

shut_call : (n : ℕ) (v w : View) (e : Event) → v.shut ≡ Some n → Called v e w → (e.answer ≡ refused n) × (w ≡ v)
shut_call n v w e s c =
    let q : due v v.cell e.ask e.room ≡ Some n = ap (λ x. option_or x (call_refusal v.coder v.cell e.ask e.room)) s in
    (c.answer_is ∙ ap (λ x. told_of x v e) q, c.view_is ∙ ap (λ x. unless_refused x v (changed v e.ask)) q)

-- each of its calls is refused, and it stays as it is
shut_run : (n : ℕ) (u : View) (es : History) (v : View) → u.shut ≡ Some n → Run Called u es v → AllRefused n es × (v ≡ u)
shut_run n u [] v s r = (tt, r)
shut_run n u (e ∷ es) v s r =
    let before = shut_run n u es r.0 s r.1.0 in
    let call = shut_call n r.0 v e (ap (λ x. x.shut) before.1 ∙ s) r.1.1 in
    ((call.0, before.0), call.1 ∙ before.1)

cell_same : {C : Type 0} (rewritten : C → ℕ → C → Type 0) (k n : ℕ) (s t : C) (a : Ask) (answer : calls.Answer) → answer ≡ refused n → rewrites rewritten k s a (is_accepted answer) t → t ≡ s
cell_same rewritten k n s t (reads_subset start shape) answer e r = subst (λ x. rewrites rewritten k s (reads_subset start shape) (is_accepted x) t) e r
cell_same rewritten k n s t (reads_range range) answer e r = subst (λ x. rewrites rewritten k s (reads_range range) (is_accepted x) t) e r
cell_same rewritten k n s t asks_cached answer e r = subst (λ x. rewrites rewritten k s asks_cached (is_accepted x) t) e r
cell_same rewritten k n s t (writes start shape elements) answer e r = subst (λ x. rewrites rewritten k s (writes start shape elements) (is_accepted x) t) e r
cell_same rewritten k n s t erases answer e r = subst (λ x. rewrites rewritten k s erases (is_accepted x) t) e r

-- ON AN OPEN CHUNK

module _ {A B S : Type 0} {a : CodecGhosts A Form Form} {f : FormGhosts Form} {b : CodecGhosts B Form ℕ} {n : FormGhosts ℕ} {s : CodecGhosts S ℕ ℕ} where
  -- how many bytes an encoding has
  abbrev pub whole : FittedChain A B S a f b n s → ℕ
  whole x = (chained (coder x)).size x.form 0

module _ {A B S C : Type 0} {a : CodecGhosts A Form Form} {f : FormGhosts Form} {b : CodecGhosts B Form ℕ} {n : FormGhosts ℕ} {s : CodecGhosts S ℕ ℕ} {c : CellGhosts C} where
  law_at_end : (o : View) (h : History) (u : OpenChunk A B S C a f b n s c) (es : History) (v : OpenChunk A B S C a f b n s c) → Always o h u es v → Law o (es ++ h) (seen v)
  law_at_end o h u [] v x = x.1
  law_at_end o h u (e ∷ es) v x = x.1.1.1

  -- the law holds at the beginning of a run and after each of its calls
  pub always : (o : View) (h : History) (u : OpenChunk A B S C a f b n s c) (es : History) (v : OpenChunk A B S C a f b n s c) → Law o h (seen u) → Run Makes u es v → Always o h u es v
  always o h u [] v law r = (r, subst (λ x. Law o h (seen x)) (sym r) law)
  always o h u (e ∷ es) v law r =
      let before = always o h u es r.0 law r.1.0 in
      (r.0, (before, (r.1.1, (carry (seen r.0) (seen v) e r.1.1.0).law o (es ++ h) (law_at_end o h u es r.0 before))))

  cells_kept : (m : ℕ) (u : OpenChunk A B S C a f b n s c) (es : History) (v : OpenChunk A B S C a f b n s c) → AllRefused m es → Run Makes u es v → v.cell ≡ u.cell
  cells_kept m u [] v x r = ap (λ y. y.cell) r
  cells_kept m u (e ∷ es) v x r = cell_same c.rewritten _ m r.0.cell v.cell e.ask e.answer x.0 r.1.1.1 ∙ cells_kept m u es r.0 x.1 r.1.0

  -- on a chunk that is shut each call is refused, and the chunk stays as it is
  pub shut_makes : (u : OpenChunk A B S C a f b n s c) (es : History) (v : OpenChunk A B S C a f b n s c) → Run Makes u es v → (m : ℕ) → (seen u).shut ≡ Some m → AllRefused m es × (seen v ≡ seen u) × (v.cell ≡ u.cell)
  shut_makes u es v r m h =
      let run = shut_run m (seen u) es (seen v) h (run_map seen Makes Called (λ x e y k. k.0) u es v r) in
      (run.0, run.1, cells_kept m u es v run.0 r)

  pub opened_and_made : (r : Result ℕ Fault) (y : C) (o : View) (u : OpenChunk A B S C a f b n s c) (es ds : History) (v : OpenChunk A B S C a f b n s c) → u.cell ≡ y → seen u ≡ o
      → ((seen u).shut ≡ None → Law (seen u) [] (seen u)) → ds ≡ es → OnOk r (Run Makes u ds v) → OnOk r (OpenedAndMade y o es v)
  opened_and_made (Ok m) y o u es ds v cy cs l e r =
      let run : Run Makes u es v = subst (λ es. Run Makes u es v) e r in record {
        first = u;
        cell_is = cy;
        seen_is = cs;
        runs = run;
        always = λ h. always o [] u es v (subst (λ z. Law z [] (seen u)) cs (l (ap (λ z. z.shut) cs ∙ h))) run;
        refused = λ m h. (let all = shut_makes u es v run m (ap (λ z. z.shut) cs ∙ h) in (all.0, all.1 ∙ cs, all.2 ∙ cy));
      }
  opened_and_made (Err d) y o u es ds v cy cs l e r = tt

  abbrev pub Replaying : ℕ → ℕ → List Call → List Recorded → List ℕ → OpenChunk A B S C a f b n s c → ℕ → ℕ → List Recorded → List ℕ → OpenChunk A B S C a f b n s c → Type 0
  Replaying work scratch calls before buffer u i from answers output v =
      (v.chain ≡ u.chain) × Replayed Makes work scratch calls before buffer u i from answers output v

  module _ (work scratch : ℕ) (calls : List Call) (before : List Recorded) (buffer : List ℕ) (u : OpenChunk A B S C a f b n s c)
      (i from : ℕ) (answers : List Recorded) (output : List ℕ) (v : OpenChunk A B S C a f b n s c) (past : Replaying work scratch calls before buffer u i from answers output v) where
    pub replaying_more : (w : OpenChunk A B S C a f b n s c) (d : Call) (r : Answer) (rest new : List ℕ) (count works scratches : ℕ)
        → i < length calls → i < length answers → rest ≡ take (length output - from) (drop from output) → length new ≡ length rest → used r ≤ length rest → drop (used r) new ≡ drop (used r) rest
        → count ≡ used r → works ≡ work → scratches ≡ scratch → w.chain ≡ v.chain
        → Carried (seen v) (call_event (get_or calls i d) (length rest) works scratches (answered r new)) (seen w)
        → Rewrites c.rewritten (whole v.chain) v.cell (call_event (get_or calls i d) (length rest) works scratches (answered r new)) w.cell
        → Replaying work scratch calls before buffer u (i + 1) (from + count) (set answers i (record { answer = r; from = from })) (put_mid from (length output - from) output new) w
    replaying_more w d r rest new count works scratches lc la is ln fits same counted ew es chain carried wrote =
        let all : rest ≡ drop from output = is ∙ take_all (length output - from) (drop from output) (omega (arith, length-drop from output)) in
        let k : length rest ≡ length output - from = ap length all ∙ length-drop from output in
        let e : call_event (get_or calls i d) (length rest) works scratches (answered r new) ≡ call_event (get_or calls i d) (length new) work scratch (answered r new) =
        ap (λ x. call_event (get_or calls i d) x works scratches (answered r new)) (sym ln)
        ∙ ap (λ x. call_event (get_or calls i d) (length new) x scratches (answered r new)) ew
        ∙ ap (λ x. call_event (get_or calls i d) (length new) work x (answered r new)) es in
        let made : Makes v (call_event (get_or calls i d) (length new) work scratch (answered r new)) w =
        subst (λ x. Makes v x w) e (carried.called, wrote) in (
          chain ∙ past.0,
          subst (λ x. Replayed Makes work scratch calls before buffer u (i + 1) (from + x) (set answers i (record { answer = r; from = from })) (put_mid from (length output - from) output new) w) (sym counted)
              (replayed_more Makes work scratch calls before buffer u i from answers output v w d r new past.1 lc la (ln ∙ k) (omega (arith, ln, fits)) (same ∙ ap (drop (used r)) all) made),
        )

    module _ (end : i ≡ length calls) where
      pub made_all : Run Makes u (events work scratch output calls answers) v
      made_all =
          subst (λ es. Run Makes u es v) (events_taken work scratch output calls answers)
          (subst (λ cs. Run Makes u (events work scratch output cs (take (length calls) answers)) v) (take_all (length calls) calls (omega arith))
          (subst (λ k. Run Makes u (events work scratch output (take k calls) (take k answers)) v) end (past.1.run output refl refl)))
