-- A kind is found by its name among all kinds.
use Rattle.std.proofs.Common.{◌≡◌, ℕ, Bool, true, false, cond, List, [], ◌∷◌, Option, Some, None, Ok, IfSome, sym, refl, ap, ◌∙◌, ok_or}
use Rattle.std.proofs.lemmas.Slice.Eq.{bytes_eq-Decides}
use Rattle.std.specs.List.{find}
use Rattle.std.specs.Str.{bytes_eq}
use Rattle.vectors.specs.Kind.{kind_name, Named}
use Rattle.vectors.specs.declared.kind.Kind.{Kind}
use Rattle.vectors.specs.declared.kind.Kind.TheVariants.{Shuffle, ShuffleRefuse, ChecksumFunction, ChecksumFile, ChecksumFileBad, ShuffleChecksum, ChecksumShuffle, Transpose, Difference, BytesBig, Chain}
use Rattle.vectors.specs.declared.kind.UnknownKind.{UnknownKind}
use Rattle.vectors.specs.declared.kind.TheConstants.{KINDS}

-- whether the word is the kind's name
abbrev pub is_named : List ℕ → Kind → Bool
is_named word kind = bytes_eq (kind_name kind) word

-- each kind is found by its name
back : (kind : Kind) → find (is_named (kind_name kind)) KINDS ≡ Some kind
back Shuffle = refl
back ShuffleRefuse = refl
back ChecksumFunction = refl
back ChecksumFile = refl
back ChecksumFileBad = refl
back ShuffleChecksum = refl
back ChecksumShuffle = refl
back Transpose = refl
back Difference = refl
back BytesBig = refl
back Chain = refl

only_step : (word : List ℕ) (kind : Kind) (kinds : List Kind) (b : Bool) → bytes_eq (kind_name kind) word ≡ b → IfSome (find (is_named word) kinds) (λ k. kind_name k ≡ word) → IfSome (cond b (Some kind) (find (is_named word) kinds)) (λ k. kind_name k ≡ word)
only_step word kind kinds true e h = (bytes_eq-Decides (kind_name kind) word).0 e
only_step word kind kinds false e h = h

-- what is found has the name
only : (word : List ℕ) (kinds : List Kind) → IfSome (find (is_named word) kinds) (λ k. kind_name k ≡ word)
only word [] = tt
only word (kind ∷ kinds) = only_step word kind kinds (bytes_eq (kind_name kind) word) refl (only word kinds)

some_of : (o : Option Kind) (unknown : UnknownKind) (kind : Kind) → ok_or o unknown ≡ Ok kind → o ≡ Some kind
some_of None unknown kind e = cc
some_of (Some k) unknown kind e = cc

pub named : (word : List ℕ) (o : Option Kind) (unknown : UnknownKind) → o ≡ find (is_named word) KINDS → Named word (ok_or o unknown)
named word o unknown e kind =
    let to : ok_or o unknown ≡ Ok kind → kind_name kind ≡ word = λ h. (let at : find (is_named word) KINDS ≡ Some kind = sym e ∙ some_of o unknown kind h in rw at at (only word KINDS)) in
    let from : kind_name kind ≡ word → ok_or o unknown ≡ Ok kind = λ h. ap (λ x. ok_or x unknown) (e ∙ (ap (λ w. find (is_named w) KINDS) (sym h) ∙ back kind)) in
    (to, from)
