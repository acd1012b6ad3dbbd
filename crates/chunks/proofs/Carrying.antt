-- The law of histories at the opening, and carried on by one call.
use Rattle.std.proofs.Common.{◌≡◌, ℕ, suc, ◌+◌, Bool, true, false, List, [], ◌∷◌, ◌++◌, length, take, drop, length-append, arith, Some, None, Ok, Err, Option, Result, refl, sym, ap, subst, ◌∙◌, IfOk, OnErr}
use Rattle.std.proofs.lemmas.Option.{none-some}
use Rattle.form.specs.declared.fault.Fault.{Fault}
use Rattle.std.proofs.lemmas.List.{take_at}
use Rattle.std.specs.Option.{unwrap_or}
use Rattle.form.specs.Refusals.{Refusal, refusal, told, unless}
use Rattle.stage.specs.Calls.{written}
use Rattle.codec_chain.specs.Place.{cache_index}
use Rattle.codec_chain.proofs.Place.{placed, placed_is}
use Rattle.cells.specs.Cells.{Value, bytes_of}
use Rattle.chunks.specs.declared.cached.Cached.{Cached}
use Rattle.chunks.specs.Views.{Coder, View, chained, encoding, array_of, kept, kept_at}
use Rattle.chunks.specs.Calls.{Ask, Answer, Event, Room, Called, refused, done, gives, cached, event, given, finished, told_cached, kept_in, cached_count, cached_written, reads_subset, reads_range, asks_cached, writes, erases, is_accepted, accepted_answer, or_refused, answer, due, overwritten, array_after, changed, storing, unless_refused}
use Rattle.chunks.specs.Histories.{History, Change, Law, Carried, array, cell, cell_by, change_after, last_change}
use Rattle.chunks.specs.Openings.{opening}

no_split : (later before : History) (e : Event) → [] ≡ later ++ (e ∷ before) → ⊥
no_split later before e s =
    let l : 0 ≡ length (later ++ (e ∷ before)) = ap length s in
    let m : length (later ++ (e ∷ before)) ≡ length later + suc (length before) = length-append later (e ∷ before) in
    absurd (omega arith)

abbrev number_in : {X : Type 0} → Result X Refusal → Option ℕ
number_in (Ok x) = None
number_in (Err r) = Some r.number

-- the number of a refusal
pub number_is : {X : Type 0} (q : Option ℕ) (e : Fault) (x : X) → Err (refusal e) ≡ unless q (Ok x) → q ≡ Some (refusal e).number
number_is None e x h = absurd (none-some _ (sym (ap number_in h)))
number_is (Some n) e x h = sym (ap number_in h)

-- what is seen of a chunk that is shut
pub shut_opening : (c : Coder) (capacity : ℕ) (value : Value) (q : Option ℕ) (e : Fault) → ◌≡◌ {A = Result Unit Refusal} (Err (refusal e)) (unless q (Ok tt))
    → ◌≡◌ {A = View} (record { coder = c; capacity = capacity; shut = Some (refusal e).number; cell = value; cached = None }) (opening c capacity value q)
shut_opening c capacity value q e h = ap (opening c capacity value) (sym (number_is {X = Unit} q e tt h))

-- where what is kept is the cell undone to the place
pub law_at_opening : (o : View) → o.cached ≡ kept o.coder o.cell → o.shut ≡ None → Law o [] o
law_at_opening o k _ = record {
  cell_is = refl;
  array_is = refl;
  answers = λ later before e s. absurd (no_split later before e s);
  kept_is = (cache_index (chained o.coder).singles, (placed (chained o.coder).singles, k));
  coder_is = refl;
  capacity_is = refl;
  shut_is = refl;
}

-- A refused call changes nothing.

array_refused : (c : Coder) (a : Ask) (x : List ℕ) → array_after c a false x ≡ x
array_refused c (reads_subset start shape) x = refl
array_refused c (reads_range range) x = refl
array_refused c asks_cached x = refl
array_refused c (writes start shape elements) x = refl
array_refused c erases x = refl

change_refused : (a : Ask) (l : Change) → change_after a false l ≡ l
change_refused (reads_subset start shape) l = refl
change_refused (reads_range range) l = refl
change_refused asks_cached l = refl
change_refused (writes start shape elements) l = refl
change_refused erases l = refl

-- ONE CALL: v is seen before it, q is the refusal that is due, and a is the call

-- whether it is accepted
abbrev ok : View → Option ℕ → Ask → Bool
ok v q a = is_accepted (or_refused q (accepted_answer v.coder v.cell (array_of v.coder v.cell) a))

-- what is seen after it
abbrev seen_after : View → Option ℕ → Ask → View
seen_after v q a = unless_refused q v (changed v a)

-- what storing leaves, every call leaves
stays : {X : Type 0} (f : View → X) → ((v : View) (value : Value) → f (storing v value) ≡ f v) → (v : View) (q : Option ℕ) (a : Ask) → f (seen_after v q a) ≡ f v
stays f still v (Some n) a = refl
stays f still v None (reads_subset start shape) = refl
stays f still v None (reads_range range) = refl
stays f still v None asks_cached = refl
stays f still v None (writes start shape elements) = still v (Some (encoding v.coder (overwritten v.coder start shape elements (array_of v.coder v.cell))))
stays f still v None erases = still v None

module _ (o v : View) (h : History) (law : Law o h v) where
  cell_more : (q : Option ℕ) (a : Ask) → (seen_after v q a).cell ≡ cell_by (change_after a (ok v q a) (last_change h)) o (array_after o.coder a (ok v q a) (array o h))
  cell_more (Some n) a = law.cell_is ∙ ap (λ l. cell_by l o (array o h)) (sym (change_refused a (last_change h))) ∙ ap (cell_by (change_after a false (last_change h)) o) (sym (array_refused o.coder a (array o h)))
  cell_more None (reads_subset start shape) = law.cell_is
  cell_more None (reads_range range) = law.cell_is
  cell_more None asks_cached = law.cell_is
  cell_more None (writes start shape elements) =
      ap (λ x. Some (encoding v.coder (overwritten v.coder start shape elements x))) law.array_is
      ∙ ap (λ c. Some (encoding c (overwritten c start shape elements (array o h)))) law.coder_is
  cell_more None erases = refl

  kept_now : v.cached ≡ kept o.coder v.cell
  kept_now = law.kept_is.1.1 ∙ ap (λ p. kept_at o.coder p v.cell) (placed_is (chained o.coder).singles law.kept_is.0 law.kept_is.1.0)

  kept_more : (q : Option ℕ) (a : Ask) → (seen_after v q a).cached ≡ kept o.coder (seen_after v q a).cell
  kept_more (Some n) a = kept_now
  kept_more None (reads_subset start shape) = kept_now
  kept_more None (reads_range range) = kept_now
  kept_more None asks_cached = kept_now
  kept_more None (writes start shape elements) = ap (λ c. kept c (Some (encoding v.coder (overwritten v.coder start shape elements (array_of v.coder v.cell))))) law.coder_is
  kept_more None erases = ap (λ c. kept c None) law.coder_is

  -- the answer that is due is told by the history's array and cell
  answer_told : (a : Ask) (r : Room) → answer v v.cell (array_of v.coder v.cell) a r ≡ answer o (cell o h) (array o h) a r
  answer_told a r =
      ap (λ x. answer v v.cell x a r) law.array_is
      ∙ ap (λ x. answer v x (array o h) a r) law.cell_is
      ∙ ap (λ c. answer (record v { coder = c }) (cell o h) (array o h) a r) law.coder_is
      ∙ ap (λ s. answer (record o { shut = s }) (cell o h) (array o h) a r) law.shut_is

answers_more : (o : View) (h : History) (e : Event) → e.answer ≡ answer o (cell o h) (array o h) e.ask e.room
    → ((later before : History) (d : Event) → h ≡ later ++ (d ∷ before) → d.answer ≡ answer o (cell o before) (array o before) d.ask d.room)
    → (later before : History) (d : Event) → e ∷ h ≡ later ++ (d ∷ before) → d.answer ≡ answer o (cell o before) (array o before) d.ask d.room
answers_more o h e now earlier [] before d s =
    let x : e ≡ d = cc in
    let y : h ≡ before = cc in
    subst (λ d. d.answer ≡ answer o (cell o before) (array o before) d.ask d.room) x (subst (λ b. e.answer ≡ answer o (cell o b) (array o b) e.ask e.room) y now)
answers_more o h e now earlier (l ∷ later) before d s = earlier later before d (let y : h ≡ later ++ (d ∷ before) = cc in y)

module _ (v w : View) (e : Event) (c : Called v e w) where
  law_after : (o : View) (h : History) → Law o h v → Law o (e ∷ h) w
  law_after o h law =
      let q = due v v.cell e.ask e.room in
      let ok_is : is_accepted e.answer ≡ ok v q e.ask = ap is_accepted c.answer_is in
      record {
        cell_is = ap (λ u. u.cell) c.view_is ∙ cell_more o v h law q e.ask ∙ ap (λ b. cell_by (change_after e.ask b (last_change h)) o (array_after o.coder e.ask b (array o h))) (sym ok_is);
        array_is = c.array_is ∙ ap (array_after v.coder e.ask (is_accepted e.answer)) law.array_is ∙ ap (λ k. array_after k e.ask (is_accepted e.answer) (array o h)) law.coder_is;
        answers = answers_more o h e (c.answer_is ∙ answer_told o v h law e.ask e.room) law.answers;
        kept_is = (cache_index (chained o.coder).singles, (placed (chained o.coder).singles, ap (λ u. u.cached) c.view_is ∙ kept_more o v h law q e.ask ∙ ap (kept o.coder) (ap (λ u. u.cell) (sym c.view_is))));
        coder_is = ap (λ u. u.coder) c.view_is ∙ stays (λ u. u.coder) (λ u x. refl) v q e.ask ∙ law.coder_is;
        capacity_is = ap (λ u. u.capacity) c.view_is ∙ stays (λ u. u.capacity) (λ u x. refl) v q e.ask ∙ law.capacity_is;
        shut_is = ap (λ u. u.shut) c.view_is ∙ stays (λ u. u.shut) (λ u x. refl) v q e.ask ∙ law.shut_is;
      }

  pub carry : Carried v e w
  carry = record { called = c; law = law_after }

abbrev pub ok_in : {X : Type 0} → Result X Refusal → Option X
ok_in (Ok x) = Some x
ok_in (Err r) = None

-- what a call answers says which refusal is due
none_due : {X : Type 0} (q : Option ℕ) (x y : X) → ◌≡◌ {A = Result X Refusal} (Ok y) (unless q (Ok x)) → (q ≡ None) × (y ≡ x)
none_due None x y h = (refl, let z : y ≡ x = cc in z)
none_due (Some n) x y h = absurd (none-some _ (sym (ap ok_in h)))

module _ (v : View) (ask : Ask) (output work scratch : ℕ) (still : changed v ask ≡ v) (same : (ok : Bool) → array_after v.coder ask ok (array_of v.coder v.cell) ≡ array_of v.coder v.cell) where
  abbrev room : Room
  room = record { output = output; work = work; scratch = scratch }

  abbrev q : Option ℕ
  q = due v v.cell ask room

  refused_carried : (n : ℕ) → q ≡ Some n → Carried v (event ask output work scratch (refused n)) v
  refused_carried n e = carry v v _ (record {
    answer_is = ap (λ q. or_refused q (accepted_answer v.coder v.cell (array_of v.coder v.cell) ask)) (sym e);
    view_is = ap (λ q. unless_refused q v (changed v ask)) (sym e);
    array_is = sym (same false);
  })

  accepted_carried : (a : Answer) → q ≡ None → a ≡ accepted_answer v.coder v.cell (array_of v.coder v.cell) ask → Carried v (event ask output work scratch a) v
  accepted_carried a e h = carry v v _ (record {
    answer_is = h ∙ ap (λ q. or_refused q (accepted_answer v.coder v.cell (array_of v.coder v.cell) ask)) (sym e);
    view_is = sym still ∙ ap (λ q. unless_refused q v (changed v ask)) (sym e);
    array_is = sym (same (is_accepted a));
  })

-- a read of bytes
module _ (v : View) (ask : Ask) (output work scratch n : ℕ) (x old new : List ℕ) (is : accepted_answer v.coder v.cell (array_of v.coder v.cell) ask ≡ gives x) (still : changed v ask ≡ v) (same : (ok : Bool) → array_after v.coder ask ok (array_of v.coder v.cell) ≡ array_of v.coder v.cell) where
  pub given_carried : (r : Result ℕ Fault) → told r ≡ unless (due v v.cell ask (record { output = output; work = work; scratch = scratch })) (Ok n)
      → new ≡ written r x old → IfOk r (λ m. length x ≡ m) → Carried v (event ask output work scratch (given r new)) v
  given_carried (Ok m) t b l =
      let d = none_due _ n m t in
      let f : take m new ≡ x = ap (take m) b ∙ take_at x (drop m old) m l in
      accepted_carried v ask output work scratch still same (gives (take m new)) d.0 (ap gives f ∙ sym is)
  given_carried (Err e) t b l = refused_carried v ask output work scratch still same (refusal e).number (number_is _ e n t)

-- the question what is kept
module _ (v : View) (output : ℕ) (old new : List ℕ) where
  told_kept : (k : Option Value) → new ≡ bytes_of (unwrap_or k None) ++ drop (length (bytes_of (unwrap_or k None))) old → kept_in (cached_count k) new ≡ k
  told_kept None b = refl
  told_kept (Some None) b = refl
  told_kept (Some (Some bytes)) b = ap (λ y. Some (Some y)) (ap (take (length bytes)) b ∙ take_at bytes (drop (length bytes) old) (length bytes) refl)

  pub cached_carried : (r : Result Cached Fault) → IfOk r (λ k. v.cached ≡ kept v.coder v.cell) → told r ≡ unless (due v v.cell asks_cached (record { output = output; work = 0; scratch = 0 })) (Ok (cached_count v.cached))
      → new ≡ cached_written r (bytes_of (unwrap_or v.cached None)) old → Carried v (event asks_cached output 0 0 (told_cached r new)) v
  cached_carried (Ok k) s t b =
      let d = none_due _ (cached_count v.cached) k t in
      accepted_carried v asks_cached output 0 0 refl (λ ok. refl) (cached (kept_in k new)) d.0 (ap cached (ap (λ k. kept_in k new) d.1 ∙ told_kept v.cached b ∙ s))
  cached_carried (Err e) s t b = refused_carried v asks_cached output 0 0 refl (λ ok. refl) (refusal e).number (number_is _ e (cached_count v.cached) t)

-- a call that changes the chunk
module _ (v w : View) (ask : Ask) (work scratch : ℕ) (is : accepted_answer v.coder v.cell (array_of v.coder v.cell) ask ≡ done) (same : array_after v.coder ask false (array_of v.coder v.cell) ≡ array_of v.coder v.cell) where
  pub finished_carried : (r : Result Unit Fault) → told r ≡ unless (due v v.cell ask (record { output = 0; work = work; scratch = scratch })) (Ok tt)
      → IfOk r (λ u. w ≡ changed v ask) → IfOk r (λ u. array_of w.coder w.cell ≡ array_after v.coder ask true (array_of v.coder v.cell)) → OnErr r (w ≡ v) → Carried v (event ask 0 work scratch (finished r)) w
  finished_carried (Ok u) t c a o =
      let d = none_due _ tt u t in
      carry v w _ (record {
        answer_is = sym is ∙ ap (λ q. or_refused q (accepted_answer v.coder v.cell (array_of v.coder v.cell) ask)) (sym d.0);
        view_is = c ∙ ap (λ q. unless_refused q v (changed v ask)) (sym d.0);
        array_is = a;
      })
  finished_carried (Err e) t c a o =
      let n = number_is _ e tt t in
      carry v w _ (record {
        answer_is = ap (λ q. or_refused q (accepted_answer v.coder v.cell (array_of v.coder v.cell) ask)) (sym n);
        view_is = o ∙ ap (λ q. unless_refused q v (changed v ask)) (sym n);
        array_is = ap (λ z. array_of z.coder z.cell) o ∙ sym same;
      })
