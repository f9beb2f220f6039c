-- What the source gave into a room of one byte.
use Rattle.std.proofs.Common.{rules, ◌≡◌, ◌<◌, length}
use Rattle.mc_main.proofs.Taking.{first_none, first_one, gives, gives_none, room_one}
use Rattle.mc_main.proofs.session.take_byte.Goals as goal

pub returns-in-0-clause-first : goal.returns-in-0-clause-first
returns-in-0-clause-first g c known is =
    let roomy : 0 < length c.take.new.into = search rules in
    first_none (g.K.Source.left c.args.keys.now) c.take.new.into c.in-Ok.count (g.K.Source.left c.take.new.self) c.in-0.is roomy c.in-Ok.ensures.answer known is

pub returns-in-0-clause-left : goal.returns-in-0-clause-left
returns-in-0-clause-left g c = gives (g.K.Source.left c.args.keys.now) c.take.new.into c.in-Ok.count 0 (g.K.Source.left c.take.new.self) c.in-0.is c.in-Ok.ensures.answer c.in-Ok.ensures.stays_unknown

pub returns-in_default-clause-first : goal.returns-in_default-clause-first
returns-in_default-clause-first g c known is =
    let one : length c.take.new.into ≡ 1 = search rules in
    let count : c.in-Ok.count ≡ 1 = search rules in
    first_one (g.K.Source.left c.args.keys.now) c.take.new.into c.in-Ok.count _ (g.K.Source.left c.take.new.self) count (room_one c.take.new.into one) c.in-Ok.ensures.answer known is

pub returns-in_default-clause-left : goal.returns-in_default-clause-left
returns-in_default-clause-left g c =
    let count : c.in-Ok.count ≡ 1 = search rules in
    gives (g.K.Source.left c.args.keys.now) c.take.new.into c.in-Ok.count 1 (g.K.Source.left c.take.new.self) count c.in-Ok.ensures.answer c.in-Ok.ensures.stays_unknown

pub returns-in-Err-clause-left : goal.returns-in-Err-clause-left
returns-in-Err-clause-left g c = gives_none (g.K.Source.left c.args.keys.now) c.take.new.into c.in-Err.fault (g.K.Source.left c.take.new.self) c.in-Err.ensures.answer c.in-Err.ensures.stays_unknown
