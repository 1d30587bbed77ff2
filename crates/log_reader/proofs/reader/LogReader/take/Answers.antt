use Rattle.std.proofs.Common.{ap, rules}
use Rattle.lazy_rules.specs.ReaderRules.{reader_row}
use Rattle.log_reader.proofs.Doors.{rowless}
use Rattle.log_reader.proofs.reader.LogReader.take.Goals as goal

pub returns-in-Place : goal.returns-in-Place
returns-in-Place c =
    rw (rowless c.args.self.now c.args.sender c.args.msg.now (ap (reader_row c.args.self.now c.args.sender) c.in-Place.is)) (search rules)

pub returns-in-Flush : goal.returns-in-Flush
returns-in-Flush c =
    rw (rowless c.args.self.now c.args.sender c.args.msg.now (ap (reader_row c.args.self.now c.args.sender) c.in-Flush.is)) (search rules)

pub returns-in-FlushCopy : goal.returns-in-FlushCopy
returns-in-FlushCopy c =
    rw (rowless c.args.self.now c.args.sender c.args.msg.now (ap (reader_row c.args.self.now c.args.sender) c.in-FlushCopy.is)) (search rules)

pub returns-in-Sealed : goal.returns-in-Sealed
returns-in-Sealed c =
    rw (rowless c.args.self.now c.args.sender c.args.msg.now (ap (reader_row c.args.self.now c.args.sender) c.in-Sealed.is)) (search rules)

pub returns-in-NewView : goal.returns-in-NewView
returns-in-NewView c =
    rw (rowless c.args.self.now c.args.sender c.args.msg.now (ap (reader_row c.args.self.now c.args.sender) c.in-NewView.is)) (search rules)
