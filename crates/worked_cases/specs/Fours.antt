-- Four ends of each kind of a board.
use Rattle.std.specs.Prelude.{◌≡◌, []}
use Rattle.atomic_table.specs.Seated.{TableId}
use Rattle.stable_board.specs.Ends.{PublisherEnd, PeekerEnd}
use Rattle.stable_board.specs.Keeping.{IsWriter, IsReader}

abbrev pub AreWriters : TableId → PublisherEnd × PublisherEnd × PublisherEnd × PublisherEnd → Type 0
AreWriters board ends = IsWriter board 0 ends.0 × IsWriter board 1 ends.1 × IsWriter board 2 ends.2 × IsWriter board 3 ends.3

abbrev pub AreReaders : TableId → PeekerEnd × PeekerEnd × PeekerEnd × PeekerEnd → Type 0
AreReaders board ends = IsReader board 0 ends.0 × IsReader board 1 ends.1 × IsReader board 2 ends.2 × IsReader board 3 ends.3

-- each publisher has the number of its place
abbrev pub AreNumbered : PublisherEnd × PublisherEnd × PublisherEnd × PublisherEnd → Type 0
AreNumbered ends = (ends.0.replica ≡ 0) × (ends.1.replica ≡ 1) × (ends.2.replica ≡ 2) × (ends.3.replica ≡ 3)

-- nothing is verified yet
abbrev pub AreNew : PublisherEnd × PublisherEnd × PublisherEnd × PublisherEnd → Type 0
AreNew ends = (ends.0.did.verified ≡ []) × (ends.1.did.verified ≡ []) × (ends.2.did.verified ≡ []) × (ends.3.did.verified ≡ [])

abbrev pub IsSameWriter : PublisherEnd → PublisherEnd → Type 0
IsSameWriter before after = (after.board ≡ before.board) × (after.replica ≡ before.replica)

abbrev pub IsSameReader : PeekerEnd → PeekerEnd → Type 0
IsSameReader before after = (after.board ≡ before.board) × (after.number ≡ before.number)

abbrev pub AreSameWriters : PublisherEnd × PublisherEnd × PublisherEnd × PublisherEnd → PublisherEnd × PublisherEnd × PublisherEnd × PublisherEnd → Type 0
AreSameWriters before after =
    IsSameWriter before.0 after.0 × IsSameWriter before.1 after.1 × IsSameWriter before.2 after.2 × IsSameWriter before.3 after.3

abbrev pub AreSameReaders : PeekerEnd × PeekerEnd × PeekerEnd × PeekerEnd → PeekerEnd × PeekerEnd × PeekerEnd × PeekerEnd → Type 0
AreSameReaders before after =
    IsSameReader before.0 after.0 × IsSameReader before.1 after.1 × IsSameReader before.2 after.2 × IsSameReader before.3 after.3
