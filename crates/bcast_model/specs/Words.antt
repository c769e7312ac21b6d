-- The definitions that clauses name, from one place.
pub use Rattle.bcast_model.specs.Calls.{TrySendError, TryRecvError, RecvError, HandleError, SendPoll, Call, Reply}
pub use Rattle.bcast_model.specs.Listeners.{Listeners, no_listeners, told_ids, untold_ids, tell, tell_all, join, is_in, without, consume, abandon, wait_again, IsDistinct, AreInOrder}
pub use Rattle.bcast_model.specs.ListenerId.{Pair, stream_of, future_of, same_place, same_pair}
pub use Rattle.bcast_model.specs.ControlFields.{Cursors, Places, Control}
pub use Rattle.bcast_model.specs.Waiting.{has_place, with_place, without_place, place_answered, place_ended, place_waits, pair_waits, pair_answered, pair_ended}
pub use Rattle.bcast_model.specs.Control.{has_no_receiver, tell_a_sender, tell_receivers, closing, close, close_if_deserted, last_end, accepting, cursor_of, with_cursor}
pub use Rattle.bcast_model.specs.View.{View, is_full, sends_are_ready, kept_at, Effect, sets}
pub use Rattle.bcast_model.specs.Sending.{reply_to_attempt, handed_back, try_broadcast_reply, attempt_send_reply, accept, offer, with_place_answered, poll_send}
pub use Rattle.bcast_model.specs.SendAll.{free_room, try_broadcast_all_reply, accept_all, offer_all}
pub use Rattle.bcast_model.specs.Receiving.{receive, listens, skipped_to, skipped_count, IsUnreadByAnother, recv_reply, try_recv_reply, IsOwed, is_empty_reply, future_reply, stream_reply, next_reply, receive_poll}
pub use Rattle.bcast_model.specs.Handles.{has_next, clone_receiver, new_sender, clone_inactive, without_receiver, drop_receiver, deactivate, drop_sender, drop_inactive}
pub use Rattle.bcast_model.specs.ReceiveReplies.{IsGiven, NoClone, ClonesEqual, IsReceivedBy, worded, Found}
pub use Rattle.bcast_model.specs.Handles.{count_reply, IsMade, IsMadeFrom}
pub use Rattle.bcast_model.specs.Legal.{Legal}
pub use Rattle.bcast_model.specs.Replies.{is_receive_refused, is_out_of_memory, chosen_id, HasPositiveCapacity}
pub use Rattle.bcast_model.specs.Effects.{resize, set_unless_refused, makes, effect}
pub use Rattle.bcast_model.specs.History.{History, least, least_cursor, end_number, front_number, numbered, queue_of, view_of, remember, opening}
pub use Rattle.bcast_model.specs.Next.{end_call, next, IsRun, end_of_run}
pub use Rattle.bcast_model.specs.Valid.{AreListed, IsValidControl, WouldWait, NoLostWakeUp, IsValid}
pub use Rattle.bcast_model.specs.Answers.{Represents, IsShown, IsPossible, Answers}
pub use Rattle.bcast_model.specs.Unread.{unread, missed}
pub use Rattle.bcast_model.specs.Deliveries.{receives_for, given_by, given_to, deliveries_of, last_cursor_of, AtEachPoint, AllFrom, IsDelivery, AreExact, AreAllExact}
pub use Rattle.bcast_model.specs.Missed.{hands_back, dropped_by, dropped_in}
pub use Rattle.bcast_model.specs.Missed.{MissesWhatIsGone, MissesWhatWasDropped}
pub use Rattle.bcast_model.specs.DeliveryLaws.{DeliveriesAreExact, WasDropped, DroppedNumbersRise, MissedWereDropped, DeliveriesTile}
pub use Rattle.bcast_model.specs.PollLaws.{must_wait, is_wait_reply, PollsWaitWhereTriesFindNothing, receiver_polled, is_poll, try_finds_nothing, WaitsAsItsTry}
pub use Rattle.bcast_model.specs.ToldPolls.{listener_count, told_count, polls_one_of, polls_listed, polls_told, told_polls, ComesToRest, ToldPollsComeToRest}
pub use Rattle.bcast_model.specs.ValidView.{IsValidView}
pub use Rattle.bcast_model.specs.Laws.{HasRange, OpeningIsValid, NextIsValid, ViewsAreShown, RepliesAreExact, IsGivenFrom, ReceivedIsGiven}
pub use Rattle.bcast_model.specs.ListLaws.{IsTest, StaysInOrder, KeepsPositions, KeepsCounts, ListsStayInOrder}
pub use Rattle.bcast_model.specs.Errors.{unsent_message, try_send_error_text, try_send_error_debug, IsOverflowed, try_recv_error_text, recv_error_text, handle_error_text}
pub use Rattle.bcast_model.specs.Encodings.{listeners_code, is_stream, kind_of, kind_code, control_code, view_code, in_lists}
pub use Rattle.bcast_model.specs.Steps.{with_message, with_messages, settle, tell_if_ready, with_control, next_view, Steps}
