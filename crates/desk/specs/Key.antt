-- A key: address, requester and number.
use Rattle.std.specs.Prelude.{Bool, ◌&&◌, eqb, leb}
use Rattle.frames.specs.Rules.{is_address, is_requester}
use Rattle.frames.specs.declared.request.StaticRequest.{StaticRequest}
use Rattle.frames.specs.declared.reply.ReplyLabel.{ReplyLabel}
use Rattle.desk.specs.declared.state.Seat.{Seat}
use Rattle.desk.specs.declared.key.Key.{Key}

abbrev pub request_key : StaticRequest → Key
request_key r = record { address = r.address; requester = r.requester; number = r.number }

-- a reply's number is compared whole: 00007 is a request's 007, and no request has a number above 00999
abbrev pub key_in : ReplyLabel → Key
key_in l = record { address = l.address; requester = l.requester; number = l.number }

abbrev pub seat_key : Seat → Key
seat_key s = record { address = s.address; requester = s.requester; number = s.number }

unfoldable pub same_key : Key → Key → Bool
same_key a b = eqb a.address b.address && eqb a.requester b.requester && eqb a.number b.number

-- a key that a static request can have
unfoldable pub is_key : Key → Bool
is_key k = is_address k.address && is_requester k.requester && leb k.number 999
