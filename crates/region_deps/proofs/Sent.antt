-- What hands out tasks may move to another thread.
use denote.Param.Send.{IsSend, sendable}
use Rattle.std.proofs.Crossing.{crosses}
use Rattle.region_deps.specs.contracts.graph.Graph as graph
use Rattle.region_deps.specs.contracts.deps.Deps as deps

pub graph_send : IsSend graph.the_row
graph_send = search (sendable, crosses) depth 20

pub deps_send : IsSend deps.the_row
deps_send = search (sendable, crosses, graph_send) depth 20
