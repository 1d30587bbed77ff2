use Rattle.node_diary.proofs.GivenDiaries.{formed_of}
use Rattle.node_diary.proofs.formed.every_fed_diary_is_formed.Goals as goal

pub returns : goal.returns
returns c shape d fed given = formed_of shape d fed given
