-- The laws of fletcher32.
use Rattle.std.proofs.Common.{sym, ap, ◌∙◌, arith}
use Rattle.std.specs.Prelude.{◌+◌}
use Rattle.std.proofs.lemmas.Bool.{eq-eqb}
use Rattle.std.proofs.lemmas.List.{length-append, length-take-le, take_at, drop_at}
use Rattle.stage.specs.Single.{CodingLaws}
use Rattle.stage.proofs.Bytewise.{not_too_long, Bytes-append, Bytes-take}
use Rattle.fletcher32.specs.Fletcher32.{fletcher32, stored, loaded, checksumming}
use Rattle.fletcher32.specs.Folds.{Bytes-stored, loaded-stored}

pub checksumming_laws : CodingLaws (λ n. n) (λ n. n) checksumming
checksumming_laws = record {
  fits = λ n r. let h = not_too_long (n + 4) r in (omega arith, omega arith);
  encoded_size = λ n x r l. length-append x (stored (fletcher32 x)) ∙ ap (λ k. k + 4) l;
  encoded_bytes = λ n x r l h. Bytes-append x (stored (fletcher32 x)) h (Bytes-stored (fletcher32 x));
  decoded_size = λ n x r l. length-take-le n x (omega arith);
  decoded_bytes = λ n x r l h. Bytes-take n x (omega arith) h;
  back = λ n x r l h. take_at x (stored (fletcher32 x)) n l;
  passing = λ n x r l h.
      let t = take_at x (stored (fletcher32 x)) n l in
      let d = drop_at x (stored (fletcher32 x)) n l in
      eq-eqb _ _ (ap loaded d ∙ loaded-stored x ∙ ap fletcher32 (sym t));
}
