use Rattle.stage_names.proofs.WordLaws.{stage_words}
use Rattle.stage_names.proofs.word.stage_words_stand.Goals as goal

pub returns : goal.returns
returns c = stage_words
