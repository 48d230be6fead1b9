use Rattle.ready_bag.proofs.queue_bag.QueueBag+T.build.Given as goal

abbrev pub ghosts-named : goal.ghosts-named
ghosts-named g a = record { count = a.workers }
