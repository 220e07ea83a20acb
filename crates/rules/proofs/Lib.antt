-- Laws of the rules.
pub mod QueueingLaws
pub mod Settled
pub mod Refusals
pub mod LimitLaws
-- DEMAND 3: the plain channel beside the shared table, call by call, and a record beside the table, slot by slot
pub mod Records
pub mod Views
pub mod Clauses
pub mod Shared
pub mod Relation
pub mod QueueViews
pub mod Newcomers
pub mod AskViews
pub mod FallViews
pub mod SettleViews
pub mod ServeViews
pub mod OneStation
pub mod Parting
pub mod Census
pub mod AskedRows
pub mod DataSenders
pub mod RecordKinds
pub mod SlotStep
pub mod Ledger
pub mod WriteStep
pub mod CallStep
pub mod ClauseLaws
pub mod WireRows
pub mod OwnHears
pub mod Walking
-- HOW LONG A PLACE WAITS: one slot of a message in a transmission queue
pub mod PlaceLaws
-- What the code goes by.
pub mod StationListens
pub mod RowReads
pub mod ListeningLaws
pub mod StationLaws
pub mod NumbersHold
