-- How a word for a list is read.
use Rattle.std.specs.Prelude.{◌≡◌, ◌⊎◌, List, map, Some, None, Ok, Err, Option, Result, vec_items}
use Rattle.std.specs.Global.{Vec}
use Rattle.chunkctl.specs.declared.trouble.Complaint.{Complaint}
use Rattle.chunkctl.specs.declared.trouble.Complaint.TheVariants.{NoMemory}

-- the values are what the word says; where it says nothing the complaint is that one
abbrev pub ListRead : {A B : Type 0} → (A → B) → Option (List B) → Complaint → Result (Vec A) Complaint → Type 0
ListRead said what complaint (Ok values) = what ≡ Some (map said (vec_items values))
ListRead said what complaint (Err c) = ((c ≡ complaint) × (what ≡ None)) ⊎ (c ≡ NoMemory)
