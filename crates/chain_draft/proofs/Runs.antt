-- Stages that code by a list of codecs, the first of which encodes first.
use Rattle.std.proofs.Common.{◌≡◌, ℕ, ◌≤◌, List, [], ◌∷◌, ◌++◌, reverse, Some, None, Option, refl, sym, ap, ◌∙◌, arith}
use Rattle.std.specs.List.{flat_map}
use Rattle.std.specs.Option.{option_or}
use Rattle.std.proofs.lemmas.Bool.{le-leb}
use Rattle.std.proofs.lemmas.List.{reverse-append, append-nil}
use Rattle.std.proofs.lemmas.Grind.{flat_map-append}
use Rattle.form.specs.Answers.{checked}
use Rattle.stage.specs.Stage.{Stage, Laws}
use Rattle.pair.specs.Compose.{after}
use Rattle.base_codecs.specs.Empty.{empty_stage}
use Rattle.codec_chain.proofs.Order.{or_twice}
use Rattle.chain_draft.specs.Seal.{coded_by, encoded_by, refused_by, singles_of}

pub or_none : (o : Option ℕ) → option_or o None ≡ o
or_none None = refl
or_none (Some n) = refl

pub or_same : (o a b : Option ℕ) → (o ≡ None → a ≡ b) → option_or o a ≡ option_or o b
or_same None a b h = h refl
or_same (Some n) a b h = refl

module _ {C F : Type 0} (m : C → Stage F F) where
  -- one list after another
  coded_append : (cs ds : List C) (f : F) → coded_by m (cs ++ ds) f ≡ coded_by m ds (coded_by m cs f)
  coded_append [] ds f = refl
  coded_append (c ∷ cs) ds f = coded_append cs ds ((m c).coded f)

  encoded_append : (cs ds : List C) (f : F) (x : List ℕ) → encoded_by m (cs ++ ds) f x ≡ encoded_by m ds (coded_by m cs f) (encoded_by m cs f x)
  encoded_append [] ds f x = refl
  encoded_append (c ∷ cs) ds f x = encoded_append cs ds ((m c).coded f) ((m c).encoded f x)

  refused_append : (cs ds : List C) (f : F) → refused_by m (cs ++ ds) f ≡ option_or (refused_by m cs f) (refused_by m ds (coded_by m cs f))
  refused_append [] ds f = refl
  refused_append (c ∷ cs) ds f =
      ap (option_or ((m c).refusal f)) (refused_append cs ds ((m c).coded f))
      ∙ sym (or_twice ((m c).refusal f) (refused_by m cs ((m c).coded f)) (refused_by m ds (coded_by m cs ((m c).coded f))))

  singles_append : (cs ds : List C) → singles_of m (cs ++ ds) ≡ singles_of m ds ++ singles_of m cs
  singles_append cs ds =
      ap (flat_map (λ c. (m c).singles)) (reverse-append cs ds) ∙ flat_map-append (λ c. (m c).singles) (reverse ds) (reverse cs)

  module _ (bF : F → ℕ) where
    -- the stage codes by the codecs, of forms of at most 4,096 bytes
    pub record Runs (cs : List C) (t : Stage F F) : Type 0 where
      pub singles : t.singles ≡ singles_of m cs
      pub refuses : (f : F) → bF f ≤ 4096 → t.refusal f ≡ refused_by m cs f
      pub coded : (f : F) → t.coded f ≡ coded_by m cs f
      pub encodes : (f : F) (x : List ℕ) → t.encoded f x ≡ encoded_by m cs f x

    -- what it encodes has at most 4,096 bytes
    abbrev pub Bounded : Stage F F → Type 0
    Bounded t = (f : F) → t.refusal f ≡ None → bF (t.coded f) ≤ 4096

    pub bounded : (t : Stage F F) → Laws bF bF t → Bounded t
    bounded t l f r = omega (arith, l.first f r, l.bound f 0 r (omega arith))

    pub runs_none : Runs [] (empty_stage bF)
    runs_none = record {
      singles = refl;
      refuses = λ f h. ap (λ b. checked b 12 None) (le-leb (bF f) 4096 h);
      coded = λ f. refl;
      encodes = λ f x. refl;
    }

    pub runs_one : (c : C) → Runs (c ∷ []) (m c)
    runs_one c = record {
      singles = sym (append-nil (m c).singles);
      refuses = λ f h. sym (or_none ((m c).refusal f));
      coded = λ f. refl;
      encodes = λ f x. refl;
    }

    pub runs_after : (cs ds : List C) (t u : Stage F F) → Bounded t → Runs cs t → Runs ds u → Runs (cs ++ ds) (after u t)
    runs_after cs ds t u b p q = record {
      singles = ap (λ s. s ++ t.singles) q.singles ∙ ap (λ s. singles_of m ds ++ s) p.singles ∙ sym (singles_append cs ds);
      refuses = λ f h.
          or_same (t.refusal f) (u.refusal (t.coded f)) (refused_by m ds (coded_by m cs f))
          (λ r. q.refuses (t.coded f) (b f r) ∙ ap (refused_by m ds) (p.coded f))
          ∙ ap (λ o. option_or o (refused_by m ds (coded_by m cs f))) (p.refuses f h)
          ∙ sym (refused_append cs ds f);
      coded = λ f. q.coded (t.coded f) ∙ ap (coded_by m ds) (p.coded f) ∙ sym (coded_append cs ds f);
      encodes = λ f x.
          q.encodes (t.coded f) (t.encoded f x)
          ∙ ap (λ g. encoded_by m ds g (t.encoded f x)) (p.coded f)
          ∙ ap (encoded_by m ds (coded_by m cs f)) (p.encodes f x)
          ∙ sym (encoded_append cs ds f x);
    }
