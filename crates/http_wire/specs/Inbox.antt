-- What the reader of messages has done to the bytes that it holds and to those that are left in the link.
use Rattle.std.specs.Prelude.{◌≡◌, ℕ, ◌≤◌, ◌⊎◌, Bool, List, length, Option, Some, None, IfSome, ⊤}
use Rattle.std.specs.Io.KnownBytes.{IsAtEnd}
use Rattle.httparse.specs.declared.spans.HeaderSpan.{HeaderSpan}
use Rattle.http_wire.specs.declared.message.Message.{Message}
use Rattle.http_wire.specs.declared.stop.Stop.{Stop}
use Rattle.http_wire.specs.declared.stop.Stop.TheVariants.{End, Cut, BadHead, TooLarge, Encoded, NeedsLength, ReadFault, Memory}
use Rattle.http_wire.specs.Messages.{HasFault, ReadsMessage, IsUnfinished, StopsWith}

-- the bytes that were read and belong to no message yet, and whether a stop was answered
pub record InboxState : Type 0 where
  pub held : List ℕ
  pub stopped : Bool

-- a whole message stands at the front of the bytes
abbrev pub HoldsMessage : List ℕ → Type 0
HoldsMessage held = (message : Message) × (rest : List ℕ) × ReadsMessage held message rest

-- the bytes settle what comes next: a whole message stands at their front, or a whole head that has a fault
abbrev pub HoldsNext : List ℕ → Type 0
HoldsNext held = HoldsMessage held ⊎ ((stop : Stop) × HasFault held stop)

-- where the bytes are told: they are the message, and then the ones that are told now
abbrev pub TakesMessage : Option (List ℕ) → Message → Option (List ℕ) → Type 0
TakesMessage None message now = ⊤
TakesMessage (Some bytes) message None = ⊥
TakesMessage (Some bytes) message (Some rest) = ReadsMessage bytes message rest

-- why no message was taken. The first argument is the bytes before, where they were told; then come the
-- bytes held after, and those left in the link
abbrev pub StopsAsDefined : Option (List ℕ) → List ℕ → Option (List ℕ) → Stop → Type 0
StopsAsDefined before held left End = IfSome before (λ bytes. StopsWith bytes End) × IsAtEnd left
StopsAsDefined before held left Cut = IfSome before (λ bytes. StopsWith bytes Cut) × IsAtEnd left
StopsAsDefined before held left BadHead = IfSome before (λ bytes. StopsWith bytes BadHead)
StopsAsDefined before held left TooLarge = IfSome before (λ bytes. StopsWith bytes TooLarge)
StopsAsDefined before held left Encoded = IfSome before (λ bytes. StopsWith bytes Encoded)
StopsAsDefined before held left NeedsLength = IfSome before (λ bytes. StopsWith bytes NeedsLength)
StopsAsDefined before held left ReadFault = IsUnfinished held
StopsAsDefined before held left Memory = ⊤

-- the bytes held are a head, a body and one piece more at most, and there is room for the fields of every head
pub record IsInboxRoom (held : List ℕ) (spans : List HeaderSpan) : Type 0 where
  pub bound : length held ≤ 4214784
  pub room : length spans ≡ 5462
