-- What is seen of the parts of a program that plays lines.
use Rattle.std.specs.Prelude.{Option, option_map, String, string_bytes}
use Rattle.std.specs.BTreeMap.{BTreeMap, get_by_text}
use Rattle.topics.specs.Hub.{topic_of}
use Rattle.bcast_play.specs.ScriptRun.{Named}
use Rattle.bcast_play.specs.TopicsRequest.{Following, Names}
use Rattle.bcast_play.specs.TopicsRun.{Followed}
use Rattle.bcast_play.specs.declared.channel.Channel.{Channel}
use Rattle.bcast_play.specs.declared.session.Session.{Session}
use Rattle.bcast_play.specs.declared.hub.HubSession.{HubSession}
use Rattle.bcast_play.specs.declared.hub.followers.Follower.{Follower}

module _ {A : Type 0} where
  -- what is seen of a script's channel, and the key of each name
  abbrev pub named_of : Channel A → Named
  named_of channel = record { view = channel.inner; key_of = get_by_text channel.names }

  -- a script's channel, if line 1 made it
  abbrev pub session_of : Session A → Option Named
  session_of session = option_map named_of session.channel

  -- a follower of a topic
  abbrev pub following : Follower A → Following
  following f = record { topic = string_bytes f.topic; key = f.key }

  -- the follower of each name
  abbrev pub follower_of : BTreeMap (String A) (Follower A) → Names
  follower_of followers name = option_map following (get_by_text followers name)

  -- the topics, and their followers
  abbrev pub followed_of : {S Hasher : Type 0} → HubSession A S Hasher → Followed
  followed_of session =
      record { topic_of = topic_of session.hub; follower_of = follower_of session.followers }
