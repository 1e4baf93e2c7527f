use Rattle.ann_reader.proofs.TextCuts.{cut_back}
use Rattle.ann_reader.proofs.line.back.Goals as goal

pub range_from-requires : goal.range_from-requires
range_from-requires c = λ _. cut_back c.args.text.now c.args.start c.utf8.text c.requires.within c.requires.ascii
