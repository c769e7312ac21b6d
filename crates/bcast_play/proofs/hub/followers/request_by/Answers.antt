-- A name that is not in use has no follower.
use Rattle.std.proofs.Common.{rules, ◌≡◌, false, true, is_some, subst, sym, string_bytes}
use Rattle.std.specs.BTreeMap.{get_by_text}
use Rattle.topics.specs.declared.request.Request.TheVariants as request
use Rattle.bcast_play.specs.declared.hub.line.Line.TheVariants as line
use Rattle.bcast_play.specs.TopicsRequest.{IsRequest, IsAboutNobody}
use Rattle.bcast_play.specs.Shown.{following, follower_of}
use Rattle.bcast_play.proofs.Lines.{map_none, map_some}
use Rattle.bcast_play.proofs.hub.followers.request_by.Goals as goal

pub returns-in_ok-from_str-in-Follow-clause-request : goal.returns-in_ok-from_str-in-Follow-clause-request
returns-in_ok-from_str-in-Follow-clause-request g c =
    let is : c.args.line ≡ line.Follow c.in-Follow.topic c.in-Follow.new = search rules in
    let named : string_bytes c.in_ok-from_str-in-Follow.field-0 ≡ c.in-Follow.topic.now = search rules in
    let free : is_some (get_by_text c.args.followers.now c.in-Follow.new.now) ≡ false = search rules in
    subst (λ l. IsRequest (follower_of c.args.followers.now) l (request.Follow c.in_ok-from_str-in-Follow.field-0)) (sym is)
    (named, map_none following (get_by_text c.args.followers.now c.in-Follow.new.now) free)

pub returns-then-contains_key-clause-refused : goal.returns-then-contains_key-clause-refused
returns-then-contains_key-clause-refused g c _ =
    let is : c.args.line ≡ line.Follow c.in-Follow.topic c.in-Follow.new = search rules in
    let used : is_some (get_by_text c.args.followers.now c.in-Follow.new.now) ≡ true = search rules in
    subst (IsAboutNobody (follower_of c.args.followers.now)) (sym is)
    (map_some following (get_by_text c.args.followers.now c.in-Follow.new.now) used)
