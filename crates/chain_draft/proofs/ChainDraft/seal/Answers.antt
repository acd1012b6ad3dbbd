use Rattle.std.proofs.Common.{◌≡◌, IfSome, Some, ap, sym, subst, ◌∙◌}
use Rattle.chain_draft.specs.Seal.{byte_stages, chain_stages, sealed_stage, CodesBy}
use Rattle.chain_draft.proofs.Seats.{codes_by, few_singles, sealed_by}
use Rattle.chain_draft.proofs.ChainDraft.seal.Goals as goal

pub unwrap-requires : goal.unwrap-requires
unwrap-requires c κs =
    let a = c.array_stages.result in
    let s = c.byte_stages.result.seats in
    c.new-chain.ensures.counted.1 (few_singles a.outer a.inner c.new.result.codec s.outer.outer s.outer.inner s.inner.outer s.inner.inner) κs

pub returns : goal.returns
returns c =
    let draft = c.args.self.now in
    let codec = c.in_ok-codec.codec in
    let arrays = draft.array_to_array.items in
    let bytes = draft.bytes_to_bytes.items in
    let there : draft.array_to_bytes ≡ Some codec = c.in_ok-codec.ensures.ok_part in
    let made : c.unwrap.result.stages ≡ record { outer = c.byte_stages.result; inner = record { outer = c.new.result; inner = c.array_stages.result } } =
    subst (λ o. IfSome o (λ chain. chain.stages ≡ record { outer = c.byte_stages.result; inner = record { outer = c.new.result; inner = c.array_stages.result } })) c.unwrap.ensures c.new-chain.ensures.made in
    let seats : c.unwrap.result.stages ≡ chain_stages arrays codec bytes =
    made
    ∙ ap (λ s. record { outer = s; inner = record { outer = c.new.result; inner = c.array_stages.result } }) c.byte_stages.ensures.seats
    ∙ ap (λ k. record { outer = byte_stages bytes; inner = record { outer = record { codec = k }; inner = c.array_stages.result } }) c.new.ensures
    ∙ ap (λ a. record { outer = byte_stages bytes; inner = record { outer = record { codec = codec }; inner = a } }) c.array_stages.ensures.seats in
    sealed_by draft.array_to_bytes codec _ c.unwrap.result there (codec, there, seats, subst (λ p. CodesBy arrays codec bytes (sealed_stage p)) (sym seats) (codes_by arrays codec bytes c.array_stages.ensures.few c.byte_stages.ensures.few))
