use Rattle.lus_running.proofs.instance.Instance.go_back.Goals as goal

pub returns : goal.returns
returns c = c.go_back.ensures c.args.self.now.node
