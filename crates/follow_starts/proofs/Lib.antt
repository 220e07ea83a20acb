mod StartReads
