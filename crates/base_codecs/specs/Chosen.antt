-- One of two codecs, as a stage: what the chosen one means.
use Rattle.stage.specs.Stage.{Stage}
use Rattle.base_codecs.specs.declared.chosen.Chosen.{Chosen}
use Rattle.base_codecs.specs.declared.chosen.Chosen.TheVariants.{First, Second}
use Rattle.base_codecs.specs.declared.empty.Empty.{Empty}

abbrev pub chosen : {A B F G : Type 0} → (A → Stage F G) → (B → Stage F G) → Chosen A B → Stage F G
chosen a b (First c) = a c
chosen a b (Second c) = b c

-- the choice of the codec that changes nothing
abbrev pub empty_choice : {F B : Type 0} → Chosen (Empty F) B
empty_choice = First (record { of = record {} })
