use Rattle.lus_running.proofs.instance.Instance.reset.Goals as goal

pub returns : goal.returns
returns c = c.reset.ensures c.args.self.now.node
