-- What a worker has may go to another thread, and the turnstile may be shared: each part may.

use base.Fml.{Lft}
use mir.Syntax.{Lifetime}
use denote.Param.Send.{IsSend, IsSync, mut_slice_send, sendable}
use denote.Slice.{MutSlice}
use Rattle.std.proofs.Crossing.{crosses}
use Rattle.an_base.proofs.event.Event.TheSendSync as event
use Rattle.an_base.specs.contracts.event.Event as Event
use Rattle.net_graph.proofs.wiring.HostOn.TheSendSync as host_on
use Rattle.net_graph.proofs.wiring.LinkAt.TheSendSync as link_at
use Rattle.net_graph.proofs.wiring.SwitchAt.TheSendSync as switch_at
use Rattle.net_script.proofs.command.Command.TheSendSync as command
use Rattle.net_script.specs.contracts.script.Script as Script
use Rattle.wire_set.proofs.wires.WireSet.TheSendSync as wires
use Rattle.host_traffic.proofs.traffic.Traffic.TheSendSync as traffic
use Rattle.net_state.proofs.stations.Stations.TheSendSync as stations
use Rattle.net_state.specs.contracts.fabric.Fabric as Fabric
use Rattle.net_state.specs.contracts.plan.Plan as Plan
use Rattle.fabric_turn.proofs.seat.Seat.TheSendSync as seat
use Rattle.fabric_turn.proofs.turnstile.Turnstile.TheSendSync as turnstile
use Rattle.fabric_turn.specs.contracts.seat.Seat as Seat
use Rattle.fabric_turn.specs.contracts.turnstile.Turnstile as Turnstile
use Rattle.net_world.specs.contracts.ask.Ask as Ask
use Rattle.net_world.specs.contracts.ask.Reply as Reply
use Rattle.fabric_book.specs.contracts.book.Book as Book
use Rattle.fabric_book.specs.contracts.book.BookStaged.TheImpl.{ghosts}
use Rattle.switch_threads.proofs.desk.Desk.TheSendSync as desk
use Rattle.switch_threads.proofs.desk.Next.TheSendSync as next
use Rattle.switch_threads.proofs.desk.Papers.TheSendSync as papers
use Rattle.switch_threads.specs.contracts.worker.Worker as Worker

plan_send : IsSend Plan.the_row
plan_send = search (sendable, crosses, switch_at.the_send, link_at.the_send, host_on.the_send, command.the_send) depth 30 fits 3000

fabric_send : IsSend Fabric.the_row
fabric_send = search (sendable, crosses, plan_send, wires.the_send, stations.the_send, traffic.the_send) depth 30 fits 3000

book_send : IsSend Book.the_row
book_send = search (sendable, crosses, fabric_send, event.the_send) depth 30 fits 3000

seat_send : IsSend (Seat.the_row Book.the_row Ask.the_row Reply.the_row Event.the_row Script.the_row ghosts)
seat_send = seat.the_send Book.the_row Ask.the_row Reply.the_row Event.the_row Script.the_row ghosts book_send

pub turnstile_sync : IsSync (Turnstile.the_row Book.the_row Ask.the_row Reply.the_row Event.the_row Script.the_row ghosts)
turnstile_sync = turnstile.the_sync Book.the_row Ask.the_row Reply.the_row Event.the_row Script.the_row ghosts book_send

pub worker_send : IsSend Worker.the_row
worker_send = search (sendable, crosses, seat_send, desk.the_send, desk.the_field_send, papers.the_send, next.the_send, next.the_field_send) depth 30 fits 3000

-- and the workers of a part of a list
pub workers_send : (ℓ : Lifetime) (κ : Lft) → IsSend (MutSlice ℓ κ Worker.the_row)
workers_send ℓ κ = mut_slice_send ℓ κ Worker.the_row worker_send
