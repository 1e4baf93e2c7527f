-- What the steps that take one message have done to the bytes held and to those left (private calls only).
use Rattle.std.specs.Prelude.{◌≡◌, ℕ, ◌<◌, Bool, true, false, not, ◌&&◌, ◌==◌, if◌then◌else◌, List, [], ◌∷◌, ◌++◌, length, Option, ⊤}
use Rattle.std.specs.Io.KnownBytes.{IsAtEnd}
use Rattle.http_wire.specs.declared.message.Message.{Message}
use Rattle.http_wire.specs.declared.stop.Stop.{Stop}
use Rattle.http_wire.specs.declared.stop.Stop.TheVariants.{End, Cut, BadHead, TooLarge, Encoded, NeedsLength, ReadFault, Memory}
use Rattle.httparse.specs.Grammar.{RequestHead}
use Rattle.http_wire.specs.Messages.{ReadsMessage, StandsHead}

-- so many bytes came behind those that were there
pub record GrowsBy (old new : List ℕ) (count : ℕ) : Type 0 where
  pub more : List ℕ
  pub bytes : new ≡ old ++ more
  pub count_is : length more ≡ count

-- all begins with front
pub record IsFrontOf (front all : List ℕ) : Type 0 where
  pub more : List ℕ
  pub bytes : all ≡ front ++ more

-- a whole head stands at the front
pub record HoldsHead (bytes : List ℕ) : Type 0 where
  pub head : RequestHead
  pub rest : List ℕ
  pub stands : StandsHead bytes head rest

-- nothing was read: the link and the bytes held are as before
pub record ReadsNothing {L : Type 0} (old new : L) (held_old held_new : List ℕ) : Type 0 where
  pub link : new ≡ old
  pub held : held_new ≡ held_old

-- a test of empty lines, from a place behind a carriage return or from another one
abbrev pub empty_lines_after : Bool → List ℕ → Bool
empty_lines_after after_return [] = not after_return
empty_lines_after after_return (byte ∷ bytes) =
    if byte == 10 then empty_lines_after false bytes
    else (if byte == 13 && not after_return then empty_lines_after true bytes else false)

-- a stop that a read may have
abbrev pub IsReadStop : Stop → Type 0
IsReadStop End = ⊥
IsReadStop Cut = ⊥
IsReadStop BadHead = ⊥
IsReadStop TooLarge = ⊥
IsReadStop Encoded = ⊥
IsReadStop NeedsLength = ⊥
IsReadStop ReadFault = ⊤
IsReadStop Memory = ⊤

-- why so many bytes were not held in the end
abbrev pub BytesStop : List ℕ → Option (List ℕ) → ℕ → Stop → Type 0
BytesStop held left count End = ⊥
BytesStop held left count Cut = (length held < count) × IsAtEnd left
BytesStop held left count BadHead = ⊥
BytesStop held left count TooLarge = ⊥
BytesStop held left count Encoded = ⊥
BytesStop held left count NeedsLength = ⊥
BytesStop held left count ReadFault = length held < count
BytesStop held left count Memory = ⊤

-- the message stands at the front, and then the rest and whatever is left behind the bytes held
pub record IsFrontMessage (held : List ℕ) (rest : List ℕ) (message : Message) : Type 0 where
  pub reads : (left : List ℕ) → ReadsMessage (held ++ left) message (rest ++ left)
